-- What a sink noted that it took of the answers of a session, and when: what a run that is cut off had answered.
use Rattle.std.specs.Prelude.{◌≡◌, ◌⊎◌, ℕ, zero, suc, ◌+◌, ◌-◌, ◌≤◌, List, [], ◌∷◌, ◌++◌, length, drop}
use Rattle.conf_session.specs.{Prelude.{Image, DiskModel}, Requests.Request, Answers.{Stored, answer_bytes, stored_after, accepted_command}}

-- the sink took so many bytes in one call, at this moment of the disk
pub record Handing : Type 0 where
  pub moment : ℕ
  pub bytes : ℕ

-- and one handing more
abbrev pub noted_at : List Handing → ℕ → ℕ → List Handing
noted_at handings moment bytes = handings ++ record { moment = moment; bytes = bytes } ∷ []

-- a call that took so many bytes at this moment is noted, or not
abbrev pub NotesAtMost : List Handing → List Handing → ℕ → ℕ → Type 0
NotesAtMost before after moment bytes = (after ≡ before) ⊎ (after ≡ noted_at before moment bytes)

-- how many bytes were taken in all
abbrev pub handed_bytes : List Handing → ℕ
handed_bytes [] = 0
handed_bytes (handing ∷ handings) = handing.bytes + handed_bytes handings

-- what a sink had noted before a session, and after it
pub record Handings : Type 0 where
  pub before : List Handing
  pub after : List Handing

abbrev pub handings_of : List Handing → List Handing → Handings
handings_of before after = record { before = before; after = after }

-- what it noted during the session
abbrev pub taken_in : Handings → List Handing
taken_in handings = drop (length handings.before) handings.after

-- How many commands were accepted of the requests whose answers begin within so many bytes of the output.
abbrev pub accepted_within : Stored → List Request → ℕ → ℕ
accepted_within now [] bytes = 0
accepted_within now (request ∷ requests) zero = 0
accepted_within now (request ∷ requests) bytes =
    length (accepted_command now request)
    + accepted_within (stored_after now request) requests (bytes - length (answer_bytes now request))

-- From each handing on, this holds of the bytes that were taken by then, and of whatever a crash leaves up to now.
abbrev pub HoldsSince : {D : Type 0} → DiskModel D → D → ℕ → List Handing → (ℕ → Image → Type 0) → Type 0
HoldsSince model disk taken [] Holds = Unit {0}
HoldsSince model disk taken (handing ∷ handings) Holds =
    (handing.moment ≤ model.moment disk)
    × ((image : Image) → model.left disk handing.moment image → Holds (taken + handing.bytes) image)
    × HoldsSince model disk (taken + handing.bytes) handings Holds

-- the moment of the last of so many handings; without one, this moment
abbrev pub moment_after : ℕ → List Handing → ℕ → ℕ
moment_after moment [] count = moment
moment_after moment (handing ∷ handings) zero = moment
moment_after moment (handing ∷ handings) (suc count) = moment_after handing.moment handings count
