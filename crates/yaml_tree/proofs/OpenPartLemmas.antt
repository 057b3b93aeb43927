-- The open parts of src/parts.rt as frames: what is next in them, and what is written before it.
use Rattle.std.proofs.Common.{◌≡◌, ℕ, suc, ◌+◌, ◌<◌, Bool, true, false, if◌then◌else◌, ◌==◌, List, [], ◌∷◌, ◌++◌, ◌⊎◌, inl, inr, codes}
use Rattle.std.proofs.Common.{length, refl, sym, ap, ◌∙◌, arith}
use Rattle.yaml_tree.{proofs.Prelude.{ne_eqb, event_of, Event, spaces, Members, shape, Text}, specs.Kept.{members_by, elements_by, no_tree}}
use Rattle.yaml_tree.specs.{OpenParts.frame_by_next, Frames.{Frame, awaiting, root, whole, in_seq, at_key, at_value, awaits_value}}
use Rattle.yaml_tree.specs.OpenText.{indent_in, empty_line, line_start, dash, key_start, seq_end, map_end, added}
use Rattle.yaml_events.specs.declared.event.Event.TheVariants.{DocStart, SeqStart, MapStart}

-- a key of a mapping, without its value
abbrev Key : Type 0
Key = Text × Unit {0}

-- what comes before the first line of a collection after a key
pub line_start-after_key : (is_first : Bool) (fs : List Frame) (i : ℕ) → is_first ≡ true → awaits_value fs ≡ true → i ≡ indent_in fs
    → codes "\n" ++ spaces i ≡ line_start is_first fs
line_start-after_key is_first fs i first awaited e =
    ap (λ n. codes "\n" ++ spaces n) e
    ∙ sym (ap (λ b. line_start b fs) first ∙ ap (λ b. if b then codes "\n" ++ spaces (indent_in fs) else []) awaited)

-- the line of an empty collection after a key
pub empty_line-after_key : (brackets : List ℕ) (fs : List Frame) → awaits_value fs ≡ true → codes " " ++ brackets ≡ empty_line brackets fs
empty_line-after_key brackets fs awaited = sym (ap (λ b. if b then codes " " ++ brackets else brackets) awaited)

-- what comes before an element of a sequence
pub dash_of : (is_empty : Bool) (fs : List Frame) → line_start is_empty fs ++ codes "- " ≡ dash (in_seq (elements_by is_empty)) fs
dash_of true fs = refl
dash_of false fs = refl

-- what comes before a key of a list of pairs
pub key_start_of : (ms : List Key) (n : ℕ) (fs : List Frame) → length ms ≡ n → line_start (n == 0) fs ≡ key_start (members_by no_tree ms) fs
key_start_of [] n fs e = sym (ap (λ m. line_start (m == 0) fs) e)
key_start_of (m ∷ ms) n fs e =
    let some : suc (length ms) ≡ n = e in
    ap (λ b. line_start b fs) (ne_eqb n 0 (λ none. omega (arith, some, none)))

-- the end of a sequence without elements, and of others
pub seq_end-empty : (is_empty : Bool) (fs : List Frame) → is_empty ≡ true
    → empty_line (codes "[]\n") fs ≡ seq_end (in_seq (elements_by is_empty)) fs
seq_end-empty true fs e = refl
seq_end-empty false fs e = cc

pub seq_end-filled : (is_empty : Bool) (fs : List Frame) → is_empty ≡ false → [] ≡ seq_end (in_seq (elements_by is_empty)) fs
seq_end-filled true fs e = cc
seq_end-filled false fs e = refl

-- the end of a mapping without members, and of others
pub map_end-empty : (ms : List Key) (awaits : Bool) (fs : List Frame) → awaits ≡ false → length ms ≡ 0
    → empty_line (codes "{}\n") fs ≡ map_end (frame_by_next (members_by no_tree ms) awaits) fs
map_end-empty [] false fs none e = refl
map_end-empty [] true fs none e = cc
map_end-empty (m ∷ ms) awaits fs none e = absurd (omega (arith, e))

pub map_end-key : (ms : Members) (awaits : Bool) (fs : List Frame) → awaits ≡ true → [] ≡ map_end (frame_by_next ms awaits) fs
map_end-key ms false fs some = cc
map_end-key ms true fs some = refl

pub map_end-filled : (ms : List Key) (awaits : Bool) (fs : List Frame) → (length ms ≡ 0 → ⊥)
    → [] ≡ map_end (frame_by_next (members_by no_tree ms) awaits) fs
map_end-filled [] awaits fs some = absurd (some refl)
map_end-filled (m ∷ ms) false fs some = refl
map_end-filled (m ∷ ms) true fs some = refl

-- the start of a part begins as a value does
pub start_added : (e : Event) (f : Frame) (fs : List Frame) → (e ≡ DocStart) ⊎ ((e ≡ SeqStart) ⊎ (e ≡ MapStart))
    → dash f fs ≡ added (f ∷ fs) (shape (event_of e))
start_added e f fs (inl is) = sym (ap (λ x. added (f ∷ fs) (shape (event_of x))) is)
start_added e f fs (inr (inl is)) = sym (ap (λ x. added (f ∷ fs) (shape (event_of x))) is)
start_added e f fs (inr (inr is)) = sym (ap (λ x. added (f ∷ fs) (shape (event_of x))) is)

-- a part's own lines are indented no more than those of a collection inside it
pub own_room : (f : Frame) (fs : List Frame) (i own : ℕ) → i ≡ indent_in (f ∷ fs) → own ≡ indent_in fs → i + 2 < 18446744073709551616
    → own + 2 < 18446744073709551616
own_room awaiting fs i own e o room = omega (arith, e, o, room)
own_room (root t) fs i own e o room = omega (arith, e, o, room)
own_room (whole t) fs i own e o room = omega (arith, e, o, room)
own_room (in_seq ts) fs i own e o room = omega (arith, e, o, room)
own_room (at_key ms) fs i own e o room = omega (arith, e, o, room)
own_room (at_value ms key) fs i own e o room = omega (arith, e, o, room)
