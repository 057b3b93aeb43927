-- What a part is as a value, and the limits that it keeps.
use Rattle.std.specs.Prelude.{ℕ, List}
use Rattle.conf_state.specs.{Drafts.drafted, Drafts.IsDraftOf, Limits.IsState, States.Entry, declared.draft.Draft.Draft}

-- the draft of the origin's configurations and the count are a state
pub record IsPart (es : List Entry) (draft : Draft) (count : ℕ) : Type 0 where
  pub draft_of : IsDraftOf es draft
  pub state : IsState (record { configs = drafted es draft; count = count })
