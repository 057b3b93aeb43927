-- A step of what is kept of open parts is one of the parts themselves.
use Rattle.std.proofs.Common.{◌≡◌, ℕ, Bool, true, false, ◌&&◌, ◌||◌, not, List, [], ◌∷◌, Option, Some, None, refl, sym, ap, ap₂, subst, ◌∙◌}
use Rattle.yaml_tree.proofs.Prelude.{same_text, Tree, text, sequence, mapping, Elements, no_element, element, Members, no_member, member}
use Rattle.yaml_tree.proofs.Prelude.{Shape, document_from, document_to, seq_from, seq_to, map_from, map_to, scalar_of, distinct}
use Rattle.yaml_tree.proofs.Prelude.{elements_distinct, members_distinct, has_key, nothing, keys_differ, values_distinct}
use Rattle.yaml_tree.specs.Frames.{Frame, awaiting, root, whole, in_seq, at_key, at_value, elements_and, members_and, innermost}
use Rattle.yaml_tree.specs.{Frames.{frames_with, step, after_document_end, after_seq_end, after_map_end, finished_tree}, Kept.{Keep, trees}}
use Rattle.yaml_tree.specs.Kept.{keys, kept, kept_elements, kept_members, kept_frames, elements_more, with_last, value_placed}
use Rattle.yaml_tree.specs.{Kept.{scalar_placed, seq_ended, map_ended, frames_distinct}, OpenParts.Finished}
use Rattle.yaml_data.proofs.KeyLemmas.{members_distinct-parts}

-- what is kept of frames, where there are frames
abbrev pub kept_some : Keep → Option (List Frame) → Option (List Frame)
kept_some keep None = None
kept_some keep (Some fs) = Some (kept_frames keep fs)

-- ---- parts

-- what is kept of elements with one more
elements_and-kept : (keep : Keep) (ts : Elements) (t : Tree)
    → elements_more keep (kept_elements keep ts) (kept keep t) ≡ kept_elements keep (elements_and ts t)
elements_and-kept trees ts t = refl
elements_and-kept keys no_element t = refl
elements_and-kept keys (element u ts) t = refl

-- what is kept of members with one more
members_and-kept : (keep : Keep) (ms : Members) (key : List ℕ) (t : Tree)
    → members_and (kept_members keep ms) key (kept keep t) ≡ kept_members keep (members_and ms key t)
members_and-kept keep no_member key t = refl
members_and-kept keep (member k u ms) key t = ap (member k (kept keep u)) (members_and-kept keep ms key t)

-- the last member gets its value
last_and : (ms : Members) (key : List ℕ) (u t : Tree) → with_last (members_and ms key u) t ≡ members_and ms key t
last_and no_member key u t = refl
last_and (member k v no_member) key u t = refl
last_and (member k v (member l w ms)) key u t = ap (member k v) (last_and (member l w ms) key u t)

-- a key that is kept gets its value
value-kept : (keep : Keep) (ms : Members) (key : List ℕ) (t : Tree)
    → with_last (members_and (kept_members keep ms) key nothing) (kept keep t) ≡ kept_members keep (members_and ms key t)
value-kept keep ms key t = last_and (kept_members keep ms) key nothing (kept keep t) ∙ members_and-kept keep ms key t

-- what is kept of a sequence is so of what is kept of its elements
seq-kept : (keep : Keep) (ts : Elements) → kept keep (sequence (kept_elements keep ts)) ≡ kept keep (sequence ts)
seq-kept trees ts = refl
seq-kept keys ts = refl

members-trees : (ms : Members) → kept_members trees ms ≡ ms
members-trees no_member = refl
members-trees (member key t ms) = ap (member key t) (members-trees ms)

map-kept : (keep : Keep) (ms : Members) → kept keep (mapping (kept_members keep ms)) ≡ kept keep (mapping ms)
map-kept trees ms = ap mapping (members-trees ms)
map-kept keys ms = refl

-- a value that is no key
placed_kept : (keep : Keep) (fs : List Frame) (t : Tree) → ((value : List ℕ) → t ≡ text value → ⊥)
    → innermost (value_placed keep (kept keep t)) (kept_frames keep fs) ≡ kept_some keep (frames_with fs t)
placed_kept keep [] t h = refl
placed_kept keep (awaiting ∷ fs) t h = refl
placed_kept keep (root u ∷ fs) t h = refl
placed_kept keep (whole u ∷ fs) t h = refl
placed_kept keep (in_seq ts ∷ fs) t h = ap (λ us. Some (in_seq us ∷ kept_frames keep fs)) (elements_and-kept keep ts t)
placed_kept keep (at_key ms ∷ fs) (text value) h = absurd (h value refl)
placed_kept keep (at_key ms ∷ fs) (sequence ts) h = refl
placed_kept keep (at_key ms ∷ fs) (mapping ns) h = refl
placed_kept keep (at_value ms key ∷ fs) t h = ap (λ ns. Some (at_key ns ∷ kept_frames keep fs)) (value-kept keep ms key t)

seq_kept : (keep : Keep) (fs : List Frame) (ts : Elements)
    → innermost (value_placed keep (kept keep (sequence ts))) (kept_frames keep fs) ≡ kept_some keep (frames_with fs (sequence ts))
seq_kept keep fs ts = placed_kept keep fs (sequence ts) (λ value e. cc)

map_kept : (keep : Keep) (fs : List Frame) (ms : Members)
    → innermost (value_placed keep (kept keep (mapping ms))) (kept_frames keep fs) ≡ kept_some keep (frames_with fs (mapping ms))
map_kept keep fs ms = placed_kept keep fs (mapping ms) (λ value e. cc)

-- a scalar
scalar_kept : (keep : Keep) (fs : List Frame) (value : List ℕ)
    → innermost (scalar_placed keep value) (kept_frames keep fs) ≡ kept_some keep (frames_with fs (text value))
scalar_kept keep [] value = refl
scalar_kept keep (awaiting ∷ fs) value = refl
scalar_kept keep (root u ∷ fs) value = refl
scalar_kept keep (whole u ∷ fs) value = refl
scalar_kept keep (in_seq ts ∷ fs) value = ap (λ us. Some (in_seq us ∷ kept_frames keep fs)) (elements_and-kept keep ts (text value))
scalar_kept keep (at_key ms ∷ fs) value = refl
scalar_kept keep (at_value ms key ∷ fs) value = ap (λ ns. Some (at_key ns ∷ kept_frames keep fs)) (value-kept keep ms key (text value))

document_kept : (keep : Keep) (fs : List Frame) → after_document_end (kept_frames keep fs) ≡ kept_some keep (after_document_end fs)
document_kept keep [] = refl
document_kept keep (awaiting ∷ fs) = refl
document_kept keep (root u ∷ fs) = refl
document_kept keep (whole u ∷ fs) = refl
document_kept keep (in_seq ts ∷ fs) = refl
document_kept keep (at_key ms ∷ fs) = refl
document_kept keep (at_value ms key ∷ fs) = refl

-- what is no scalar, and ends neither a sequence nor a mapping
abbrev pub IsInner : Shape → Type 0
IsInner document_from = Unit {0}
IsInner document_to = Unit {0}
IsInner seq_from = Unit {0}
IsInner seq_to = ⊥
IsInner map_from = Unit {0}
IsInner map_to = ⊥
IsInner (scalar_of value) = ⊥

no_elements-kept : (keep : Keep) → no_element ≡ kept_elements keep no_element
no_elements-kept trees = refl
no_elements-kept keys = refl

step_kept : (keep : Keep) (fs : List Frame) (s : Shape) → IsInner s → step (kept_frames keep fs) s ≡ kept_some keep (step fs s)
step_kept keep fs document_from h = refl
step_kept keep fs document_to h = document_kept keep fs
step_kept keep fs seq_from h = ap (λ ts. Some (in_seq ts ∷ kept_frames keep fs)) (no_elements-kept keep)
step_kept keep fs seq_to h = absurd h
step_kept keep fs map_from h = refl
step_kept keep fs map_to h = absurd h
step_kept keep fs (scalar_of value) h = absurd h

-- ---- whether keys differ

abbrev Differs : Option (List Frame) → Bool → Type 0
Differs None b = Unit {0}
Differs (Some fs) b = b ≡ frames_distinct fs

and_last : (a b : Bool) → (a && b) ≡ (b && a)
and_last true true = refl
and_last true false = refl
and_last false true = refl
and_last false false = refl

and_assoc : (a b c : Bool) → (a && (b && c)) ≡ (a && b && c)
and_assoc true b c = refl
and_assoc false b c = refl

and_true : (b : Bool) → (b && true) ≡ b
and_true true = refl
and_true false = refl

elements_and-distinct : (ts : Elements) (t : Tree) → elements_distinct (elements_and ts t) ≡ (distinct t && elements_distinct ts)
elements_and-distinct no_element t = refl
elements_and-distinct (element u ts) t =
    ap (λ b. distinct u && b) (elements_and-distinct ts t) ∙ turn (distinct u) (distinct t) (elements_distinct ts)
  where
    turn : (a b c : Bool) → (a && (b && c)) ≡ (b && (a && c))
    turn true true c = refl
    turn true false c = refl
    turn false true c = refl
    turn false false c = refl

members_and-distinct : (ms : Members) (key : List ℕ) (t : Tree)
    → values_distinct (members_and ms key t) ≡ (distinct t && values_distinct ms)
members_and-distinct no_member key t = refl
members_and-distinct (member k u ms) key t =
    ap (λ b. distinct u && b) (members_and-distinct ms key t) ∙ turn (distinct u) (distinct t) (values_distinct ms)
  where
    turn : (a b c : Bool) → (a && (b && c)) ≡ (b && (a && c))
    turn true true c = refl
    turn true false c = refl
    turn false true c = refl
    turn false false c = refl

put_differs : (fs : List Frame) (t : Tree) → Differs (frames_with fs t) (distinct t && frames_distinct fs)
put_differs [] t = tt
put_differs (awaiting ∷ fs) t = refl
put_differs (root u ∷ fs) t = tt
put_differs (whole u ∷ fs) t = tt
put_differs (in_seq ts ∷ fs) t =
    and_assoc (distinct t) (elements_distinct ts) (frames_distinct fs)
    ∙ ap (λ b. b && frames_distinct fs) (sym (elements_and-distinct ts t))
put_differs (at_key ms ∷ fs) (text key) = refl
put_differs (at_key ms ∷ fs) (sequence ts) = tt
put_differs (at_key ms ∷ fs) (mapping ns) = tt
put_differs (at_value ms key ∷ fs) t =
    and_assoc (distinct t) (values_distinct ms) (frames_distinct fs)
    ∙ ap (λ b. b && frames_distinct fs) (sym (members_and-distinct ms key t))

document_differs : (fs : List Frame) → Differs (after_document_end fs) (frames_distinct fs)
document_differs [] = tt
document_differs (awaiting ∷ fs) = tt
document_differs (root u ∷ fs) = refl
document_differs (whole u ∷ fs) = tt
document_differs (in_seq ts ∷ fs) = tt
document_differs (at_key ms ∷ fs) = tt
document_differs (at_value ms key ∷ fs) = tt

step_differs : (fs : List Frame) (s : Shape) → IsInner s → Differs (step fs s) (frames_distinct fs)
step_differs fs document_from h = refl
step_differs fs document_to h = document_differs fs
step_differs fs seq_from h = refl
step_differs fs seq_to h = absurd h
step_differs fs map_from h = refl
step_differs fs map_to h = absurd h
step_differs fs (scalar_of value) h = absurd h

-- ---- the parts that a step of what is kept is a step of

pub record Stepped (keep : Keep) (new : List Frame) (differ : Bool) (o : Option (List Frame)) : Type 0 where
  pub parts : List Frame
  pub are : o ≡ Some parts
  pub frames : new ≡ kept_frames keep parts
  pub distinct : differ ≡ frames_distinct parts

stepped : (keep : Keep) (o : Option (List Frame)) (new : List Frame) (b : Bool) → kept_some keep o ≡ Some new
    → Differs o b → Stepped keep new b o
stepped keep None new b e d = cc
stepped keep (Some fs) new b e d = record { parts = fs; are = refl; frames = cc; distinct = d }

none_kept : (keep : Keep) (o : Option (List Frame)) → kept_some keep o ≡ None → o ≡ None
none_kept keep None e = refl
none_kept keep (Some fs) e = cc

-- where what is kept takes an inner event, so do the frames themselves, and their keys differ as before
pub inner_stepped : (keep : Keep) (fs new : List Frame) (s : Shape) → IsInner s → step (kept_frames keep fs) s ≡ Some new
    → Stepped keep new (frames_distinct fs) (step fs s)
inner_stepped keep fs new s h e = stepped keep (step fs s) new (frames_distinct fs) (sym (step_kept keep fs s h) ∙ e) (step_differs fs s h)

-- where it refuses an inner event, so do the frames themselves
pub inner_none : (keep : Keep) (fs : List Frame) (s : Shape) → IsInner s → step (kept_frames keep fs) s ≡ None → step fs s ≡ None
inner_none keep fs s h e = none_kept keep (step fs s) (sym (step_kept keep fs s h) ∙ e)

-- where what is kept takes a scalar, so do the frames
pub scalar_stepped : (keep : Keep) (fs new : List Frame) (value : List ℕ)
    → innermost (scalar_placed keep value) (kept_frames keep fs) ≡ Some new
    → Stepped keep new (frames_distinct fs) (frames_with fs (text value))
scalar_stepped keep fs new value e =
    stepped keep (frames_with fs (text value)) new (frames_distinct fs) (sym (scalar_kept keep fs value) ∙ e) (put_differs fs (text value))

-- where it refuses a scalar, so do the frames
pub scalar_refused : (keep : Keep) (fs : List Frame) (value : List ℕ) → innermost (scalar_placed keep value) (kept_frames keep fs) ≡ None
    → frames_with fs (text value) ≡ None
scalar_refused keep fs value e = none_kept keep (frames_with fs (text value)) (sym (scalar_kept keep fs value) ∙ e)

-- the sequence, the mapping that is innermost
pub record InSeq (keep : Keep) (fs : List Frame) (ts : Elements) (rest : List Frame) : Type 0 where
  pub elements : Elements
  pub outer : List Frame
  pub is : fs ≡ in_seq elements ∷ outer
  pub kept_is : ts ≡ kept_elements keep elements
  pub after : rest ≡ kept_frames keep outer

pub record InMap (keep : Keep) (fs : List Frame) (ms : Members) (rest : List Frame) : Type 0 where
  pub members : Members
  pub outer : List Frame
  pub is : fs ≡ at_key members ∷ outer
  pub kept_is : ms ≡ kept_members keep members
  pub after : rest ≡ kept_frames keep outer

-- frames of which an open sequence is kept have one
pub in_seq_parts : (keep : Keep) (fs : List Frame) (us : Elements) (rest : List Frame)
    → kept_frames keep fs ≡ in_seq us ∷ rest → InSeq keep fs us rest
in_seq_parts keep [] us rest e = cc
in_seq_parts keep (awaiting ∷ fs) us rest e = cc
in_seq_parts keep (root u ∷ fs) us rest e = cc
in_seq_parts keep (whole u ∷ fs) us rest e = cc
in_seq_parts keep (in_seq ts ∷ fs) us rest e = record { elements = ts; outer = fs; is = refl; kept_is = cc; after = cc }
in_seq_parts keep (at_key ms ∷ fs) us rest e = cc
in_seq_parts keep (at_value ms key ∷ fs) us rest e = cc

-- frames of which an open mapping is kept have one
pub in_map_parts : (keep : Keep) (fs : List Frame) (ns : Members) (rest : List Frame)
    → kept_frames keep fs ≡ at_key ns ∷ rest → InMap keep fs ns rest
in_map_parts keep [] ns rest e = cc
in_map_parts keep (awaiting ∷ fs) ns rest e = cc
in_map_parts keep (root u ∷ fs) ns rest e = cc
in_map_parts keep (whole u ∷ fs) ns rest e = cc
in_map_parts keep (in_seq ts ∷ fs) ns rest e = cc
in_map_parts keep (at_key ms ∷ fs) ns rest e = record { members = ms; outer = fs; is = refl; kept_is = cc; after = cc }
in_map_parts keep (at_value ms key ∷ fs) ns rest e = cc

-- what is put for a sequence
seq_value : (keep : Keep) (ts us : Elements) (v : Tree) → us ≡ kept_elements keep ts → v ≡ kept keep (sequence us)
    → v ≡ kept keep (sequence ts)
seq_value keep ts us v e is = is ∙ ap (λ ws. kept keep (sequence ws)) e ∙ seq-kept keep ts

map_value : (keep : Keep) (ms ns : Members) (v : Tree) → ns ≡ kept_members keep ms → v ≡ kept keep (mapping ns) → v ≡ kept keep (mapping ms)
map_value keep ms ns v e is = is ∙ ap (λ os. kept keep (mapping os)) e ∙ map-kept keep ms

-- where the end of a sequence that is kept is taken, so is that of the sequence
pub seq_stepped : (keep : Keep) (fs rest new : List Frame) (us : Elements) (v : Tree) → InSeq keep fs us rest → v ≡ kept keep (sequence us)
    → innermost (value_placed keep v) rest ≡ Some new → Stepped keep new (frames_distinct fs) (after_seq_end fs)
seq_stepped keep fs rest new us v i is e =
    let value = seq_value keep i.elements us v i.kept_is is in
    let found = stepped keep (frames_with i.outer (sequence i.elements)) new (elements_distinct i.elements && frames_distinct i.outer)
    (sym (seq_kept keep i.outer i.elements) ∙ ap₂ (λ w gs. innermost (value_placed keep w) gs) (sym value) (sym i.after) ∙ e)
    (put_differs i.outer (sequence i.elements)) in
    subst (λ gs. Stepped keep new (frames_distinct gs) (after_seq_end gs)) (sym i.is) found

-- where it has no place, the sequence has none
pub seq_put_none : (keep : Keep) (fs rest : List Frame) (us : Elements) (v : Tree) → InSeq keep fs us rest → v ≡ kept keep (sequence us)
    → innermost (value_placed keep v) rest ≡ None → after_seq_end fs ≡ None
seq_put_none keep fs rest us v i is e =
    let value = seq_value keep i.elements us v i.kept_is is in
    ap after_seq_end i.is
    ∙ none_kept keep (frames_with i.outer (sequence i.elements))
    (sym (seq_kept keep i.outer i.elements) ∙ ap₂ (λ w gs. innermost (value_placed keep w) gs) (sym value) (sym i.after) ∙ e)

keys_of_mapping : (ms : Members) (d : Bool) (fs : List Frame) → d ≡ (values_distinct ms && frames_distinct fs)
    → (d && keys_differ ms) ≡ (members_distinct ms && frames_distinct fs)
keys_of_mapping ms d fs e =
    ap (λ b. b && keys_differ ms) e ∙ and_last (values_distinct ms && frames_distinct fs) (keys_differ ms)
    ∙ and_assoc (keys_differ ms) (values_distinct ms) (frames_distinct fs)
    ∙ ap (λ b. b && frames_distinct fs) (sym (members_distinct-parts ms))

has_key-kept : (keep : Keep) (key : List ℕ) (ms : Members) → has_key key (kept_members keep ms) ≡ has_key key ms
has_key-kept keep key no_member = refl
has_key-kept keep key (member k t ms) = ap (λ b. same_text key k || b) (has_key-kept keep key ms)

keys_differ-kept : (keep : Keep) (ms : Members) → keys_differ (kept_members keep ms) ≡ keys_differ ms
keys_differ-kept keep no_member = refl
keys_differ-kept keep (member k t ms) = ap₂ (λ a b. not a && b) (has_key-kept keep k ms) (keys_differ-kept keep ms)

-- the answer is taken together with whether this mapping's keys differ
pub map_stepped : (keep : Keep) (fs rest new : List Frame) (ns : Members) (v : Tree) (d : Bool)
    → InMap keep fs ns rest → v ≡ kept keep (mapping ns)
    → innermost (value_placed keep v) rest ≡ Some new → d ≡ frames_distinct fs → Stepped keep new (d && keys_differ ns) (after_map_end fs)
map_stepped keep fs rest new ns v d i is e was =
    let value = map_value keep i.members ns v i.kept_is is in
    let same : keys_differ ns ≡ keys_differ i.members = ap keys_differ i.kept_is ∙ keys_differ-kept keep i.members in
    let flag : (d && keys_differ ns) ≡ (members_distinct i.members && frames_distinct i.outer) =
    ap (λ b. d && b) same ∙ keys_of_mapping i.members d i.outer (was ∙ ap frames_distinct i.is) in
    let found = stepped keep (frames_with i.outer (mapping i.members)) new (members_distinct i.members && frames_distinct i.outer)
    (sym (map_kept keep i.outer i.members) ∙ ap₂ (λ w gs. innermost (value_placed keep w) gs) (sym value) (sym i.after) ∙ e)
    (put_differs i.outer (mapping i.members)) in
    let there : Stepped keep new (members_distinct i.members && frames_distinct i.outer) (after_map_end fs) =
    subst (λ gs. Stepped keep new (members_distinct i.members && frames_distinct i.outer) (after_map_end gs)) (sym i.is) found in
    subst (λ b. Stepped keep new b (after_map_end fs)) (sym flag) there

-- where it has no place, the mapping has none
pub map_put_none : (keep : Keep) (fs rest : List Frame) (ns : Members) (v : Tree) → InMap keep fs ns rest → v ≡ kept keep (mapping ns)
    → innermost (value_placed keep v) rest ≡ None → after_map_end fs ≡ None
map_put_none keep fs rest ns v i is e =
    let value = map_value keep i.members ns v i.kept_is is in
    ap after_map_end i.is
    ∙ none_kept keep (frames_with i.outer (mapping i.members))
    (sym (map_kept keep i.outer i.members) ∙ ap₂ (λ w gs. innermost (value_placed keep w) gs) (sym value) (sym i.after) ∙ e)

-- where no sequence is innermost
pub seq_none : (keep : Keep) (fs : List Frame) → seq_ended (kept_frames keep fs) ≡ None → after_seq_end fs ≡ None
seq_none keep [] e = refl
seq_none keep (awaiting ∷ fs) e = refl
seq_none keep (root u ∷ fs) e = refl
seq_none keep (whole u ∷ fs) e = refl
seq_none keep (in_seq ts ∷ fs) e = cc
seq_none keep (at_key ms ∷ fs) e = refl
seq_none keep (at_value ms key ∷ fs) e = refl

-- where no mapping is innermost in which a key is next
pub map_none : (keep : Keep) (fs : List Frame) → map_ended (kept_frames keep fs) ≡ None → after_map_end fs ≡ None
map_none keep [] e = refl
map_none keep (awaiting ∷ fs) e = refl
map_none keep (root u ∷ fs) e = refl
map_none keep (whole u ∷ fs) e = refl
map_none keep (in_seq ts ∷ fs) e = refl
map_none keep (at_key ms ∷ fs) e = cc
map_none keep (at_value ms key ∷ fs) e = refl

-- ---- the end

-- where a whole tree is kept, so it is in the frames themselves
pub finished_kept : (keep : Keep) (fs : List Frame) (t : Tree) (d : Bool)
    → finished_tree (kept_frames keep fs) ≡ Some t → d ≡ frames_distinct fs
    → Finished keep t d (finished_tree fs)
finished_kept keep [] t d e h = cc
finished_kept keep (awaiting ∷ fs) t d e h = cc
finished_kept keep (root u ∷ fs) t d e h = cc
finished_kept keep (whole u ∷ []) t d e h = record { tree = u; is = refl; kept_is = cc; keys = h ∙ and_true (distinct u) }
finished_kept keep (whole u ∷ f ∷ fs) t d e h = cc
finished_kept keep (in_seq ts ∷ fs) t d e h = cc
finished_kept keep (at_key ms ∷ fs) t d e h = cc
finished_kept keep (at_value ms key ∷ fs) t d e h = cc

-- where no whole tree is kept, neither is there one in the frames
pub finished_none : (keep : Keep) (fs : List Frame) → finished_tree (kept_frames keep fs) ≡ None → finished_tree fs ≡ None
finished_none keep [] e = refl
finished_none keep (awaiting ∷ fs) e = refl
finished_none keep (root u ∷ fs) e = refl
finished_none keep (whole u ∷ []) e = cc
finished_none keep (whole u ∷ f ∷ fs) e = refl
finished_none keep (in_seq ts ∷ fs) e = refl
finished_none keep (at_key ms ∷ fs) e = refl
finished_none keep (at_value ms key ∷ fs) e = refl
