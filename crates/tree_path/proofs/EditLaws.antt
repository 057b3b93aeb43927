-- Laws of edits. What is set is found again; and where no mapping holds a key twice, none does after an edit.
use Rattle.std.proofs.Common.{◌≡◌, ℕ, zero, suc, Bool, true, false, cond, not, ◌&&◌, ◌||◌, ◌==◌, List, [], ◌∷◌, ◌++◌, Some, option_map}
use Rattle.std.proofs.Common.{Result, Ok, Err, refl, sym, ap, ap₂, subst, ◌∙◌, arith}
use Rattle.tree_path.proofs.Prelude.{nat_tests, same_text, Tree, text, sequence, mapping, Elements, no_element, element, Members, no_member}
use Rattle.tree_path.proofs.{Prelude.{member, distinct, elements_distinct, members_distinct, has_key, PathFault}, Descents.edit_path}
use Rattle.tree_path.proofs.{Descents.edit_path-step, Edits.set-edit, StepLaws.{option_map-Some, present-Ok, element_at-put_element}}
use Rattle.tree_path.{proofs.StepLaws.{value_of-put_member, child-put}, specs.{declared.place.Miss.{Miss, TheVariants.Absent}, Paths.Index}}
use Rattle.tree_path.specs.Paths.{number, after_last, no_index, index_of, at_index, present, element_at, put_element, cut_element}
use Rattle.tree_path.specs.Paths.{push_element, value_of, put_member, cut_member, child, put, cut, at_step, and_then, at_from, at}
use Rattle.tree_path.specs.Paths.{edit_from, set, delete}

both : (a b : Bool) → (a && b) ≡ true → (a ≡ true) × (b ≡ true)
both true b is = (refl, is)
both false b is = cc

and : (a b : Bool) → a ≡ true → b ≡ true → (a && b) ≡ true
and a b x y = ap₂ ◌&&◌ x y

or_false : (a b : Bool) → (a || b) ≡ false → (a ≡ false) × (b ≡ false)
or_false true b is = cc
or_false false b is = (refl, is)

neither : (a b : Bool) → a ≡ false → b ≡ false → (a || b) ≡ false
neither a b x y = ap₂ ◌||◌ x y

not_true : (a : Bool) → not a ≡ true → a ≡ false
not_true true is = cc
not_true false is = refl

eq-swap : (c d : ℕ) → (c == d) ≡ (d == c)
eq-swap c d = grind (arith, nat_tests)

-- ---- elements

element_at-distinct : (ts : Elements) (n : ℕ) (u : Tree) → elements_distinct ts ≡ true → element_at ts n ≡ Some u → distinct u ≡ true
element_at-distinct no_element n u d is = cc
element_at-distinct (element t ts) zero u d is = let e : t ≡ u = cc in
    subst (λ x. distinct x ≡ true) e (both (distinct t) (elements_distinct ts) d).0
element_at-distinct (element t ts) (suc n) u d is = element_at-distinct ts n u (both (distinct t) (elements_distinct ts) d).1 is

put_element-distinct : (ts us : Elements) (n : ℕ) (v : Tree) → elements_distinct ts ≡ true → distinct v ≡ true
    → put_element ts n v ≡ Some us → elements_distinct us ≡ true
put_element-distinct no_element us n v d e is = cc
put_element-distinct (element t ts) us zero v d e is =
    let s : element v ts ≡ us = cc in
    subst (λ x. elements_distinct x ≡ true) s (and (distinct v) (elements_distinct ts) e (both (distinct t) (elements_distinct ts) d).1)
put_element-distinct (element t ts) us (suc n) v d e is =
    let o = option_map-Some (element t) (put_element ts n v) us is in
    let b = both (distinct t) (elements_distinct ts) d in
    subst (λ x. elements_distinct x ≡ true) o.2 (and (distinct t) (elements_distinct o.0) b.0 (put_element-distinct ts o.0 n v b.1 e o.1))

cut_element-distinct : (ts us : Elements) (n : ℕ) → elements_distinct ts ≡ true → cut_element ts n ≡ Some us → elements_distinct us ≡ true
cut_element-distinct no_element us n d is = cc
cut_element-distinct (element t ts) us zero d is =
    let s : ts ≡ us = cc in subst (λ x. elements_distinct x ≡ true) s (both (distinct t) (elements_distinct ts) d).1
cut_element-distinct (element t ts) us (suc n) d is =
    let o = option_map-Some (element t) (cut_element ts n) us is in
    let b = both (distinct t) (elements_distinct ts) d in
    subst (λ x. elements_distinct x ≡ true) o.2 (and (distinct t) (elements_distinct o.0) b.0 (cut_element-distinct ts o.0 n b.1 o.1))

push_element-distinct : (ts : Elements) (v : Tree) → elements_distinct ts ≡ true → distinct v ≡ true
    → elements_distinct (push_element ts v) ≡ true
push_element-distinct no_element v d e = and (distinct v) true e refl
push_element-distinct (element t ts) v d e =
    let b = both (distinct t) (elements_distinct ts) d in
    and (distinct t) (elements_distinct (push_element ts v)) b.0 (push_element-distinct ts v b.1 e)

-- ---- members

value_of-distinct : (ms : Members) (key : List ℕ) (u : Tree) → members_distinct ms ≡ true → value_of ms key ≡ Some u → distinct u ≡ true
value_of-distinct no_member key u d is = cc
value_of-distinct (member other t ms) key u d is =
    let a = both (not (has_key other ms) && distinct t) (members_distinct ms) d in
    let P : Bool → Type 0 = λ b. cond b (Some t) (value_of ms key) ≡ Some u → distinct u ≡ true in
    (elim (same_text key other) as P [
      | true ↦ λ e. let s : t ≡ u = cc in subst (λ x. distinct x ≡ true) s (both (not (has_key other ms)) (distinct t) a.0).1
      | false ↦ λ e. value_of-distinct ms key u a.1 e
    ]) is

same_text-swap : (cs ds : List ℕ) → same_text cs ds ≡ same_text ds cs
same_text-swap [] [] = refl
same_text-swap [] (d ∷ ds) = refl
same_text-swap (c ∷ cs) [] = refl
same_text-swap (c ∷ cs) (d ∷ ds) = ap₂ ◌&&◌ (eq-swap c d) (same_text-swap cs ds)

-- an edit at one key leaves the other keys
has_key-put_member : (ms : Members) (key other : List ℕ) (v : Tree) → same_text other key ≡ false
    → has_key other ms ≡ false → has_key other (put_member ms key v) ≡ false
has_key-put_member no_member key other v apart without = neither (same_text other key) false apart refl
has_key-put_member (member k t ms) key other v apart without =
    let w = or_false (same_text other k) (has_key other ms) without in
    let P : Bool → Type 0 = λ b. has_key other (cond b (member k v ms) (member k t (put_member ms key v))) ≡ false in
    elim (same_text key k) as P [
      | true ↦ without
      | false ↦ neither (same_text other k) (has_key other (put_member ms key v)) w.0 (has_key-put_member ms key other v apart w.1)
    ]

members_distinct-put_member : (ms : Members) (key : List ℕ) (v : Tree) → members_distinct ms ≡ true
    → distinct v ≡ true → members_distinct (put_member ms key v) ≡ true
members_distinct-put_member no_member key v d e = and (distinct v) true e refl
members_distinct-put_member (member k t ms) key v d e =
    let a = both (not (has_key k ms) && distinct t) (members_distinct ms) d in
    let b = both (not (has_key k ms)) (distinct t) a.0 in
    let P : Bool → Type 0 = λ x. same_text key k ≡ x
    → members_distinct (cond x (member k v ms) (member k t (put_member ms key v))) ≡ true in
    (elim (same_text key k) as P [
      | true ↦ λ _. and (not (has_key k ms) && distinct v) (members_distinct ms) (and (not (has_key k ms)) (distinct v) b.0 e) a.1
      | false ↦ λ apart. and (not (has_key k (put_member ms key v)) && distinct t) (members_distinct (put_member ms key v))
          (and (not (has_key k (put_member ms key v))) (distinct t)
          (ap not (has_key-put_member ms key k v (same_text-swap k key ∙ apart) (not_true (has_key k ms) b.0))) b.1)
          (members_distinct-put_member ms key v a.1 e)
    ]) refl

has_key-cut_member : (ms ns : Members) (key other : List ℕ) → cut_member ms key ≡ Some ns → has_key other ms ≡ false
    → has_key other ns ≡ false
has_key-cut_member no_member ns key other is without = cc
has_key-cut_member (member k t ms) ns key other is without =
    let w = or_false (same_text other k) (has_key other ms) without in
    let P : Bool → Type 0 = λ b. cond b (Some ms) (option_map (member k t) (cut_member ms key)) ≡ Some ns → has_key other ns ≡ false in
    (elim (same_text key k) as P [
      | true ↦ λ e. let same : ms ≡ ns = cc in subst (λ x. has_key other x ≡ false) same w.1
      | false ↦ λ e.
          let o = option_map-Some (member k t) (cut_member ms key) ns e in
          subst (λ x. has_key other x ≡ false) o.2 (neither (same_text other k) (has_key other o.0) w.0
          (has_key-cut_member ms o.0 key other o.1 w.1))
    ]) is

members_distinct-cut_member : (ms ns : Members) (key : List ℕ) → members_distinct ms ≡ true
    → cut_member ms key ≡ Some ns → members_distinct ns ≡ true
members_distinct-cut_member no_member ns key d is = cc
members_distinct-cut_member (member k t ms) ns key d is =
    let a = both (not (has_key k ms) && distinct t) (members_distinct ms) d in
    let b = both (not (has_key k ms)) (distinct t) a.0 in
    let P : Bool → Type 0 = λ x. cond x (Some ms) (option_map (member k t) (cut_member ms key)) ≡ Some ns → members_distinct ns ≡ true in
    (elim (same_text key k) as P [
      | true ↦ λ e. let same : ms ≡ ns = cc in subst (λ x. members_distinct x ≡ true) same a.1
      | false ↦ λ e.
          let o = option_map-Some (member k t) (cut_member ms key) ns e in
          subst (λ x. members_distinct x ≡ true) o.2
          (and (not (has_key k o.0) && distinct t) (members_distinct o.0)
          (and (not (has_key k o.0)) (distinct t) (ap not (has_key-cut_member ms o.0 key k o.1 (not_true (has_key k ms) b.0))) b.1)
          (members_distinct-cut_member ms o.0 key a.1 o.1))
    ]) is

-- ---- one step

-- in what a step leads to, keys differ
pub child-distinct : (t u : Tree) (token : List ℕ) → distinct t ≡ true → child t token ≡ Ok u → distinct u ≡ true
unfolding child
child-distinct (text value) u token d is = cc
child-distinct (sequence ts) u token d is = in_sequence (index_of token) is
  where
    in_sequence : (index : Index) → at_index index (element_at ts) (Err Absent) ≡ Ok u → distinct u ≡ true
    in_sequence (number n) e = element_at-distinct ts n u d (present-Ok _ u e)
    in_sequence after_last e = cc
    in_sequence no_index e = cc
child-distinct (mapping ms) u token d is = value_of-distinct ms token u d (present-Ok _ u is)

put_index-distinct : (index : Index) (ts : Elements) (v u : Tree) → elements_distinct ts ≡ true → distinct v ≡ true
    → at_index index (λ n. option_map sequence (put_element ts n v)) (Ok (sequence (push_element ts v))) ≡ Ok u → distinct u ≡ true
put_index-distinct (number n) ts v u d e is =
    let o = option_map-Some sequence (put_element ts n v) u (present-Ok _ u is) in
    subst (λ x. distinct x ≡ true) o.2 (put_element-distinct ts o.0 n v d e o.1)
put_index-distinct after_last ts v u d e is =
    let same : sequence (push_element ts v) ≡ u = cc in subst (λ x. distinct x ≡ true) same (push_element-distinct ts v d e)
put_index-distinct no_index ts v u d e is = cc

put-distinct : (t u v : Tree) (token : List ℕ) → distinct t ≡ true → distinct v ≡ true → put t token v ≡ Ok u → distinct u ≡ true
unfolding put
put-distinct (text value) u v token d e is = cc
put-distinct (sequence ts) u v token d e is = put_index-distinct (index_of token) ts v u d e is
put-distinct (mapping ms) u v token d e is =
    let same : mapping (put_member ms token v) ≡ u = cc in subst (λ x. distinct x ≡ true) same (members_distinct-put_member ms token v d e)

cut_index-distinct : (index : Index) (ts : Elements) (u : Tree) → elements_distinct ts ≡ true
    → at_index index (λ n. option_map sequence (cut_element ts n)) (Err Absent) ≡ Ok u → distinct u ≡ true
cut_index-distinct (number n) ts u d is =
    let o = option_map-Some sequence (cut_element ts n) u (present-Ok _ u is) in
    subst (λ x. distinct x ≡ true) o.2 (cut_element-distinct ts o.0 n d o.1)
cut_index-distinct after_last ts u d is = cc
cut_index-distinct no_index ts u d is = cc

cut-distinct : (t u : Tree) (token : List ℕ) → distinct t ≡ true → cut t token ≡ Ok u → distinct u ≡ true
unfolding cut
cut-distinct (text value) u token d is = cc
cut-distinct (sequence ts) u token d is = cut_index-distinct (index_of token) ts u d is
cut-distinct (mapping ms) u token d is =
    let o = option_map-Some mapping (cut_member ms token) u (present-Ok _ u is) in
    subst (λ x. distinct x ≡ true) o.2 (members_distinct-cut_member ms o.0 token d o.1)

-- ---- along a path

-- a step that succeeds leads on
pub at_step-Ok : (step : ℕ) (r : Result Tree Miss) (next : Tree → Result Tree PathFault) (u : Tree) → at_step step r next ≡ Ok u
    → (t : Tree) × (r ≡ Ok t) × (next t ≡ Ok u)
at_step-Ok step (Ok t) next u is = (t, refl, is)
at_step-Ok step (Err miss) next u is = cc

-- so does a tree
pub and_then-Ok : (r : Result Tree PathFault) (next : Tree → Result Tree PathFault) (u : Tree) → and_then r next ≡ Ok u
    → (t : Tree) × (r ≡ Ok t) × (next t ≡ Ok u)
and_then-Ok (Ok t) next u is = (t, refl, is)
and_then-Ok (Err fault) next u is = cc

-- a tree as a result
abbrev pub done : Tree → Result Tree PathFault
done t = Ok t

-- equal results of one step are one
pub same_Ok : (a b : Tree) (r : Result Tree Miss) → r ≡ Ok a → done a ≡ done b → r ≡ Ok b
same_Ok a b r is same = let e : a ≡ b = cc in is ∙ ap Ok e

edit_from-distinct : (edit : Tree → List ℕ → Result Tree Miss)
    (keeps : (t u : Tree) (token : List ℕ) → distinct t ≡ true → edit t token ≡ Ok u → distinct u ≡ true)
    (tokens : List (List ℕ)) (step : ℕ) (t u : Tree) (token : List ℕ) → distinct t ≡ true
    → edit_from edit step t token tokens ≡ Ok u → distinct u ≡ true
edit_from-distinct edit keeps [] step t u token d is =
    let a = at_step-Ok step (edit t token) Ok u is in keeps t u token d (same_Ok a.0 u (edit t token) a.1 a.2)
edit_from-distinct edit keeps (next ∷ tokens) step t u token d is =
    let a = at_step-Ok step (child t token) _ u is in
    let b = and_then-Ok (edit_from edit (suc step) a.0 next tokens) (λ v. at_step step (put t token v) Ok) u a.2 in
    let c = at_step-Ok step (put t token b.0) Ok u b.2 in
    put-distinct t u b.0 token d (edit_from-distinct edit keeps tokens (suc step) a.0 b.0 next (child-distinct t a.0 token d a.1) b.1)
    (same_Ok c.0 u (put t token b.0) c.1 c.2)

-- a set keeps keys different
pub set-distinct : (t v u : Tree) (path : List (List ℕ)) → distinct t ≡ true → distinct v ≡ true → set t path v ≡ Ok u → distinct u ≡ true
set-distinct t v u [] d e is = let same : v ≡ u = cc in subst (λ x. distinct x ≡ true) same e
set-distinct t v u (token ∷ tokens) d e is =
    edit_from-distinct (λ x last. put x last v) (λ x y last xd p. put-distinct x y v last xd e p) tokens 1 t u token d is

-- so does a delete
pub delete-distinct : (t u : Tree) (path : List (List ℕ)) → distinct t ≡ true → delete t path ≡ Ok u → distinct u ≡ true
delete-distinct t u [] d is = let same : t ≡ u = cc in subst (λ x. distinct x ≡ true) same d
delete-distinct t u (token ∷ tokens) d is = edit_from-distinct cut cut-distinct tokens 1 t u token d is

-- ---- what is set is found there

put_index-found : (index : Index) (ts : Elements) (v u : Tree) → (index ≡ after_last → ⊥)
    → at_index index (λ n. option_map sequence (put_element ts n v)) (Ok (sequence (push_element ts v))) ≡ Ok u
    → (us : Elements) × (sequence us ≡ u) × (at_index index (element_at us) (Err Absent) ≡ Ok v)
put_index-found (number n) ts v u inside is =
    let o = option_map-Some sequence (put_element ts n v) u (present-Ok _ u is) in
    (o.0, o.2, ap present (element_at-put_element ts o.0 n v o.1))
put_index-found after_last ts v u inside is = absurd (inside refl)
put_index-found no_index ts v u inside is = cc

put-found : (t u v : Tree) (token : List ℕ) → (index_of token ≡ after_last → ⊥) → put t token v ≡ Ok u → child u token ≡ Ok v
unfolding child put
put-found (text value) u v token inside is = cc
put-found (sequence ts) u v token inside is =
    let p = put_index-found (index_of token) ts v u inside is in subst (λ x. child x token ≡ Ok v) p.1 p.2
put-found (mapping ms) u v token inside is =
    let same : mapping (put_member ms token v) ≡ u = cc in
    subst (λ x. child x token ≡ Ok v) same (ap present (value_of-put_member ms token v))

set_path-found : (parents : List (List ℕ)) (last : List ℕ) (step : ℕ) (t u v : Tree) → (index_of last ≡ after_last → ⊥)
    → edit_path (λ x token. put x token v) step t (parents ++ last ∷ []) ≡ Ok u → at_from step u (parents ++ last ∷ []) ≡ Ok v
set_path-found [] last step t u v inside is =
    let a = at_step-Ok step (put t last v) Ok u is in
    rw (put-found t u v last inside (same_Ok a.0 u (put t last v) a.1 a.2))
set_path-found (token ∷ parents) last step t u v inside is =
    let whole = sym (edit_path-step (λ x x'. put x x' v) step t token last parents) ∙ is in
    let a = at_step-Ok step (child t token) _ u whole in
    let b = and_then-Ok (edit_path (λ x x'. put x x' v) (suc step) a.0 (parents ++ last ∷ []))
    (λ w. at_step step (put t token w) Ok) u a.2 in
    let c = at_step-Ok step (put t token b.0) Ok u b.2 in
    let found = child-put t u token a.0 b.0 a.1 (same_Ok c.0 u (put t token b.0) c.1 c.2) in
    rw found (set_path-found parents last (suc step) a.0 b.0 v inside b.1)

-- what is set is found again
pub set-at : (t u v : Tree) (parents : List (List ℕ)) (last : List ℕ) → (index_of last ≡ after_last → ⊥)
    → set t (parents ++ last ∷ []) v ≡ Ok u → at u (parents ++ last ∷ []) ≡ Ok v
set-at t u v parents last inside is = set_path-found parents last 1 t u v inside (sym (set-edit parents last t v) ∙ is)
