-- Lists of events that grow.
use Rattle.std.proofs.{Common.{◌≡◌, ap, append_assoc, refl, sym, ◌∙◌, ℕ, length}, Math.Seq.{take-append_seam, drop-append_seam}}
use Rattle.std.specs.Prelude.{List, [], ◌∷◌, ◌++◌, drop, insert, take}
use Rattle.yaml_flow.proofs.Prelude.{append-nil, map-append, All-append, All-cons, All-nil, Event, map_start, MapStart, event_of, events_of}
use Rattle.yaml_flow.{proofs.Prelude.BorrowsPlain, specs.{FlowNodes.Appended, Frames.EventList}}
use Rattle.yaml_events.specs.declared.event.Event.{Event as ListedEvent}

module _ (text : List ℕ) where
  -- no event is appended yet
  pub appended_none : (es : EventList) → Appended text es es []
  appended_none es = record { more = []; is = sym (append-nil es); means = refl; borrows = All-nil (BorrowsPlain text) }

  -- one event more is appended
  pub appended_one : (old new : EventList) (event : ListedEvent) (meant : Event) → new ≡ old ++ event ∷ []
      → event_of event ≡ meant → BorrowsPlain text event
      → Appended text old new (meant ∷ [])
  appended_one old new event meant e m b = record {
    more = event ∷ [];
    is = e;
    means = ap (λ x. x ∷ []) m;
    borrows = All-cons (BorrowsPlain text) event [] b (All-nil (BorrowsPlain text));
  }

  -- further events are appended
  pub appended_then : (a b c : EventList) (one two : List Event) → Appended text a b one → Appended text b c two
      → Appended text a c (one ++ two)
  appended_then a b c one two h k = record {
    more = h.more ++ k.more;
    is = k.is ∙ (ap (λ es. es ++ k.more) h.is ∙ append_assoc a h.more k.more);
    means = map-append event_of h.more k.more ∙ (ap (λ es. es ++ events_of k.more) h.means ∙ ap (λ es. one ++ es) k.means);
    borrows = All-append (BorrowsPlain text) h.more k.more h.borrows k.borrows;
  }

  -- the events may be written otherwise
  pub appended_as : (old new : EventList) (one two : List Event) → one ≡ two → Appended text old new one → Appended text old new two
  appended_as old new one two e h = record { more = h.more; is = h.is; means = h.means ∙ e; borrows = h.borrows }

  -- so may the list
  pub appended_to : (old new newer : EventList) (one : List Event) → newer ≡ new → Appended text old new one → Appended text old newer one
  appended_to old new newer one e h = record { more = h.more; is = e ∙ h.is; means = h.means; borrows = h.borrows }

  -- an event that is put before the later ones
  pub appended_between : (a b c new : EventList) (one two : List Event) → Appended text a b one
      → Appended text b c two → new ≡ insert c (length b) MapStart
      → Appended text a new (one ++ (map_start ∷ two))
  appended_between a b c new one two h k e =
      let i : insert c (length b) MapStart ≡ b ++ (MapStart ∷ k.more) =
      ap (λ es. insert es (length b) MapStart) k.is ∙ inserted b k.more in
      appended_then a b new one (map_start ∷ two) h (record {
        more = MapStart ∷ k.more;
        is = e ∙ i;
        means = ap (λ es. map_start ∷ es) k.means;
        borrows = All-cons (BorrowsPlain text) MapStart k.more tt k.borrows;
      })
    where
      inserted : (xs ys : EventList) → insert (xs ++ ys) (length xs) MapStart ≡ xs ++ (MapStart ∷ ys)
      inserted xs ys = ap (λ zs. zs ++ (MapStart ∷ (drop (length xs) (xs ++ ys)))) (take-append_seam xs ys)
          ∙ ap (λ zs. xs ++ (MapStart ∷ zs)) (drop-append_seam xs ys)

-- what is appended means these events
pub appended_means : (text : List ℕ) (old new : EventList) (meant : List Event) → Appended text old new meant
    → events_of new ≡ events_of old ++ meant
appended_means text old new meant h = ap events_of h.is ∙ (map-append event_of old h.more ∙ ap (λ es. events_of old ++ es) h.means)

-- a list is its own prefix of full length
pub take_all : (xs : EventList) → take (length xs) xs ≡ xs
take_all xs = ap (take (length xs)) (sym (append-nil xs)) ∙ take-append_seam xs []
