-- The differences of two trees make the second of the first, and equal trees have none.
use Rattle.std.proofs.Common.{◌≡◌, ℕ, suc, ◌+◌, ◌-◌, ◌==◌, nat_lt, arith, Bool, true, false, not, ◌&&◌, List, [], ◌∷◌, ◌++◌, map, codes}
use Rattle.std.proofs.Common.{Some, None, Ok, Err, option_map, if◌then◌else◌, refl, sym, ap, ap₂, subst, ◌∙◌}
use Rattle.tree_diff.proofs.Prelude.{nat_tests, not-true, and_right, same_text, Tree, text, sequence, mapping, Elements, no_element}
use Rattle.tree_diff.proofs.Prelude.{element, Members, no_member, member, has_key, distinct, elements_distinct, members_distinct}
use Rattle.tree_diff.proofs.Prelude.{join_elements, join_members, and_parts, same_text-true, same_text-self, at_index, present, element_at}
use Rattle.tree_diff.proofs.Prelude.{put_element, cut_element, push_element, child, put, cut, at_step, Absent}
use Rattle.tree_diff.proofs.{Indices.index_of-index_token, Performing.{made, ArePlaces, ArePlaces-append, ArePlaces-below, made-append}}
use Rattle.tree_diff.proofs.{Performing.{made-first, made-below}, Joins.{count-join, join_elements-none, join_elements-next}}
use Rattle.tree_diff.proofs.Joins.{element_at-join, put_element-join, cut_element-join, push_element-join, join_members-none}
use Rattle.tree_diff.proofs.Joins.{join_members-next, value_of-join, put_member-join, put_member-new, cut_member-join, Free, Free-none}
use Rattle.tree_diff.{proofs.Joins.Free-next, specs.Differences.{below, here, index_token, new_elements, new_members, differences}}
use Rattle.tree_diff.specs.{Differences.{element_differences, member_differences}, Choices.{before_end, count, is_set_whole, kept}}
use Rattle.tree_diff.specs.Choices.{member_count}

-- ---- one step in a sequence

child-join : (ts us : Elements) (t : Tree) → child (sequence (join_elements ts (element t us))) (index_token (count ts)) ≡ Ok t
unfolding child
child-join ts us t =
    ap (λ i. at_index i (element_at (join_elements ts (element t us))) (Err Absent)) (index_of-index_token (count ts))
    ∙ ap present (element_at-join ts us t)

put-join : (ts us : Elements) (t v : Tree)
    → put (sequence (join_elements ts (element t us))) (index_token (count ts)) v ≡ Ok (sequence (join_elements ts (element v us)))
unfolding put
put-join ts us t v =
    let ws = join_elements ts (element t us) in
    ap (λ i. at_index i (λ n. option_map sequence (put_element ws n v)) (Ok (sequence (push_element ws v))))
    (index_of-index_token (count ts))
    ∙ ap (λ o. present (option_map sequence o)) (put_element-join ts us t v)

cut-join : (ts us : Elements) (t : Tree)
    → cut (sequence (join_elements ts (element t us))) (index_token (count ts)) ≡ Ok (sequence (join_elements ts us))
unfolding cut
cut-join ts us t =
    let ws = join_elements ts (element t us) in
    ap (λ i. at_index i (λ n. option_map sequence (cut_element ws n)) (Err Absent)) (index_of-index_token (count ts))
    ∙ ap (λ o. present (option_map sequence o)) (cut_element-join ts us t)

put-new : (ts : Elements) (v : Tree) → put (sequence ts) (codes "-") v ≡ Ok (sequence (join_elements ts (element v no_element)))
unfolding put
put-new ts v = ap (λ us. Ok (sequence us)) (push_element-join ts v)

-- ---- one step in a mapping

child-key : (ms ns : Members) (k : List ℕ) (t : Tree) → has_key k ms ≡ false → child (mapping (join_members ms (member k t ns))) k ≡ Ok t
unfolding child
child-key ms ns k t free = ap present (value_of-join ms ns k t free)

put-key : (ms ns : Members) (k : List ℕ) (t v : Tree) → has_key k ms ≡ false
    → put (mapping (join_members ms (member k t ns))) k v ≡ Ok (mapping (join_members ms (member k v ns)))
unfolding put
put-key ms ns k t v free = ap (λ x. Ok (mapping x)) (put_member-join ms ns k t v free)

put-new-key : (ms : Members) (k : List ℕ) (v : Tree) → has_key k ms ≡ false
    → put (mapping ms) k v ≡ Ok (mapping (join_members ms (member k v no_member)))
unfolding put
put-new-key ms k v free = ap (λ x. Ok (mapping x)) (put_member-new ms k v free)

cut-key : (ms ns : Members) (k : List ℕ) (t : Tree) → has_key k ms ≡ false
    → cut (mapping (join_members ms (member k t ns))) k ≡ Ok (mapping (join_members ms ns))
unfolding cut
cut-key ms ns k t free = ap (λ o. present (option_map mapping o)) (cut_member-join ms ns k t free)

-- ---- what is new

new_elements-made : (us ts : Elements) → made (new_elements us) (sequence ts) ≡ Ok (sequence (join_elements ts us))
new_elements-made no_element ts = ap (λ x. Ok (sequence x)) (sym (join_elements-none ts))
new_elements-made (element u us) ts =
    let next = join_elements ts (element u no_element) in
    made-first (record { path = codes "-" ∷ []; value = Some u }) (new_elements us) (sequence ts) (sequence next)
    (ap (λ r. at_step 1 r Ok) (put-new ts u))
    ∙ new_elements-made us next ∙ ap (λ x. Ok (sequence x)) (join_elements-next ts us u)

-- the parts of `members_distinct`: the first key is not among the others, and the keys in its value and in the others differ
parts-distinct : (k : List ℕ) (t : Tree) (ms : Members) → members_distinct (member k t ms) ≡ true
    → (has_key k ms ≡ false) × (distinct t ≡ true) × (members_distinct ms ≡ true)
parts-distinct k t ms is =
    let a = and_parts (not (has_key k ms) && distinct t) (members_distinct ms) is in
    let b = and_parts (not (has_key k ms)) (distinct t) a.0 in
    (not-true (has_key k ms) b.0, b.1, a.1)

new_members-made : (ns ms : Members) → Free ms ns → members_distinct ns ≡ true
    → made (new_members ns) (mapping ms) ≡ Ok (mapping (join_members ms ns))
new_members-made no_member ms free apart = ap (λ x. Ok (mapping x)) (sym (join_members-none ms))
new_members-made (member k u ns) ms free apart =
    let next = join_members ms (member k u no_member) in
    let own = parts-distinct k u ns apart in
    made-first (record { path = k ∷ []; value = Some u }) (new_members ns) (mapping ms) (mapping next)
    (ap (λ r. at_step 1 r Ok) (put-new-key ms k u free.0))
    ∙ new_members-made ns next (Free-next ns ms k u free.1 own.0) own.2 ∙ ap (λ x. Ok (mapping x)) (join_members-next ms ns k u)

-- ---- each difference is at a place

new_elements-places : (us : Elements) → ArePlaces (new_elements us)
new_elements-places no_element = tt
new_elements-places (element u us) = (tt, new_elements-places us)

new_members-places : (ns : Members) → ArePlaces (new_members ns)
new_members-places no_member = tt
new_members-places (member k u ns) = (tt, new_members-places ns)

elements-places : (ts : Elements) (ahead index : ℕ) (us : Elements) → ArePlaces (element_differences ahead index ts us)
elements-places no_element ahead index us = new_elements-places us
elements-places (element t ts) ahead index no_element = (tt, elements-places ts ahead index no_element)
elements-places (element t ts) ahead index (element u us) =
    let P : Bool → Type 0 = λ b. ArePlaces (if b
    then record { path = index_token index ∷ []; value = None } ∷ element_differences ahead index ts (element u us)
    else map (below (index_token index)) (differences t u) ++ element_differences (ahead - 1) (index + 1) ts us) in
    elim ((ahead == 0) && nat_lt (count us) (count ts)) as P [
      | true ↦ (tt, elements-places ts ahead index (element u us))
      | false ↦ ArePlaces-append (map (below (index_token index)) (differences t u)) (element_differences (ahead - 1) (index + 1) ts us)
          (ArePlaces-below (index_token index) (differences t u)) (elements-places ts (ahead - 1) (index + 1) us)
    ]

members-places : (ms ns : Members) → ArePlaces (member_differences ms ns)
members-places no_member ns = new_members-places ns
members-places (member k t ms) no_member = (tt, members-places ms no_member)
members-places (member k t ms) (member l u ns) =
    let P : Bool → Type 0 = λ b. ArePlaces (if b then map (below k) (differences t u) ++ member_differences ms ns
    else record { path = k ∷ []; value = None } ∷ member_differences ms (member l u ns)) in
    elim (same_text k l) as P [
      | true ↦ ArePlaces-append (map (below k) (differences t u)) (member_differences ms ns)
          (ArePlaces-below k (differences t u)) (members-places ms ns)
      | false ↦ (tt, members-places ms (member l u ns))
    ]

pub places : (t u : Tree) → ArePlaces (differences t u)
places (text value) (text other) =
    let P : Bool → Type 0 = λ b. ArePlaces (if b then [] else here (Some (text other))) in
    elim (same_text value other) as P [ true ↦ tt | false ↦ (tt, tt) ]
places (text value) (sequence us) = (tt, tt)
places (text value) (mapping ns) = (tt, tt)
places (sequence ts) (text other) = (tt, tt)
places (sequence ts) (sequence us) = elements-places ts (before_end ts us) 0 us
places (sequence ts) (mapping ns) = (tt, tt)
places (mapping ms) (text other) = (tt, tt)
places (mapping ms) (sequence us) = (tt, tt)
places (mapping ms) (mapping ns) =
    let P : Bool → Type 0 = λ b. ArePlaces (if b then here (Some (mapping ns)) else member_differences ms ns) in
    elim (is_set_whole ms ns) as P [ true ↦ (tt, tt) | false ↦ members-places ms ns ]

-- ---- the differences make the second tree of the first

mutual
  pub differences-made : (t u : Tree) → distinct t ≡ true → distinct u ≡ true → made (differences t u) t ≡ Ok u
  differences-made (text value) (text other) d e =
      let P : Bool → Type 0 = λ b. same_text value other ≡ b
      → made (if b then [] else here (Some (text other))) (text value) ≡ Ok (text other) in
      (elim (same_text value other) as P [
        | true ↦ λ same. ap (λ x. Ok (text x)) (same_text-true value other same)
        | false ↦ λ differ. refl
      ]) refl
  differences-made (text value) (sequence us) d e = refl
  differences-made (text value) (mapping ns) d e = refl
  differences-made (sequence ts) (text other) d e = refl
  differences-made (sequence ts) (sequence us) d e = elements-made ts (before_end ts us) no_element us d e
  differences-made (sequence ts) (mapping ns) d e = refl
  differences-made (mapping ms) (text other) d e = refl
  differences-made (mapping ms) (sequence us) d e = refl
  differences-made (mapping ms) (mapping ns) d e =
      let P : Bool → Type 0 = λ b. made (if b then here (Some (mapping ns)) else member_differences ms ns) (mapping ms) ≡ Ok (mapping ns) in
      elim (is_set_whole ms ns) as P [ true ↦ refl | false ↦ members-made ms no_member ns (Free-none ms) (Free-none ns) d e ]

  elements-made : (ts : Elements) (ahead : ℕ) (done us : Elements) → elements_distinct ts ≡ true → elements_distinct us ≡ true
      → made (element_differences ahead (count done) ts us) (sequence (join_elements done ts)) ≡ Ok (sequence (join_elements done us))
  elements-made no_element ahead done us d e =
      ap (λ x. made (new_elements us) (sequence x)) (join_elements-none done) ∙ new_elements-made us done
  elements-made (element t ts) ahead done no_element d e =
      made-first (record { path = index_token (count done) ∷ []; value = None }) (element_differences ahead (count done) ts no_element)
      (sequence (join_elements done (element t ts))) (sequence (join_elements done ts))
      (ap (λ r. at_step 1 r Ok) (cut-join done ts t))
      ∙ elements-made ts ahead done no_element (and_parts (distinct t) (elements_distinct ts) d).1 e
  elements-made (element t ts) ahead done (element u us) d e =
      let p = and_parts (distinct t) (elements_distinct ts) d in
      let q = and_parts (distinct u) (elements_distinct us) e in
      let token = index_token (count done) in
      let whole = sequence (join_elements done (element t ts)) in
      let next = join_elements done (element u no_element) in
      let further : count done + 1 ≡ count next = sym (count-join done (element u no_element)) in
      let P : Bool → Type 0 = λ b. made (if b
      then record { path = token ∷ []; value = None } ∷ element_differences ahead (count done) ts (element u us)
      else map (below token) (differences t u) ++ element_differences (ahead - 1) (count done + 1) ts us) whole
      ≡ Ok (sequence (join_elements done (element u us))) in
      elim ((ahead == 0) && nat_lt (count us) (count ts)) as P [
        | true ↦
            made-first (record { path = token ∷ []; value = None }) (element_differences ahead (count done) ts (element u us))
            whole (sequence (join_elements done ts)) (ap (λ r. at_step 1 r Ok) (cut-join done ts t))
            ∙ elements-made ts ahead done (element u us) p.1 e
        | false ↦
            made-append (map (below token) (differences t u)) (element_differences (ahead - 1) (count done + 1) ts us)
            whole (sequence (join_elements done (element u ts)))
            (made-below (differences t u) whole t u (sequence (join_elements done (element u ts)))
            token (places t u) (child-join done ts t) (differences-made t u p.0 q.0) (put-join done ts t u))
            ∙ ap₂ (λ index x. made (element_differences (ahead - 1) index ts us) (sequence x)) further (sym (join_elements-next done ts u))
            ∙ elements-made ts (ahead - 1) next us p.1 q.1 ∙ ap (λ x. Ok (sequence x)) (join_elements-next done us u)
      ]

  members-made : (ms done ns : Members) → Free done ms → Free done ns → members_distinct ms ≡ true → members_distinct ns ≡ true
      → made (member_differences ms ns) (mapping (join_members done ms)) ≡ Ok (mapping (join_members done ns))
  members-made no_member done ns free other d e =
      ap (λ x. made (new_members ns) (mapping x)) (join_members-none done) ∙ new_members-made ns done other e
  members-made (member k t ms) done no_member free other d e =
      made-first (record { path = k ∷ []; value = None }) (member_differences ms no_member)
      (mapping (join_members done (member k t ms))) (mapping (join_members done ms))
      (ap (λ r. at_step 1 r Ok) (cut-key done ms k t free.0))
      ∙ members-made ms done no_member free.1 other (parts-distinct k t ms d).2 e
  members-made (member k t ms) done (member l u ns) free other d e =
      let p = parts-distinct k t ms d in
      let q = parts-distinct l u ns e in
      let whole = mapping (join_members done (member k t ms)) in
      let next = join_members done (member l u no_member) in
      let P : Bool → Type 0 = λ b. same_text k l ≡ b
      → made (if b then map (below k) (differences t u) ++ member_differences ms ns
      else record { path = k ∷ []; value = None } ∷ member_differences ms (member l u ns)) whole
      ≡ Ok (mapping (join_members done (member l u ns))) in
      (elim (same_text k l) as P [
        | true ↦ λ same.
            let named : k ≡ l = same_text-true k l same in
            let after = mapping (join_members done (member l u ms)) in
            let apart : has_key l ms ≡ false = subst (λ x. has_key x ms ≡ false) named p.0 in
            made-append (map (below k) (differences t u)) (member_differences ms ns) whole after
            (made-below (differences t u) whole t u after k (places t u) (child-key done ms k t free.0) (differences-made t u p.1 q.1)
            (put-key done ms k t u free.0 ∙ ap (λ x. Ok (mapping (join_members done (member x u ms)))) named))
            ∙ ap (λ x. made (member_differences ms ns) (mapping x)) (sym (join_members-next done ms l u))
            ∙ members-made ms next ns (Free-next ms done l u free.1 apart) (Free-next ns done l u other.1 q.0) p.2 q.2
            ∙ ap (λ x. Ok (mapping x)) (join_members-next done ns l u)
        | false ↦ λ differ.
            made-first (record { path = k ∷ []; value = None }) (member_differences ms (member l u ns)) whole
            (mapping (join_members done ms))
            (ap (λ r. at_step 1 r Ok) (cut-key done ms k t free.0))
            ∙ members-made ms done (member l u ns) free.1 other p.2 e
      ]) refl

-- ---- equal trees have none

kept-same : (ms : Members) → kept ms ms ≡ member_count ms
kept-same no_member = refl
kept-same (member k t ms) =
    ap (λ b. if b then suc (kept ms ms) else kept ms (member k t ms)) (same_text-self k) ∙ ap suc (kept-same ms)

not_whole : (ms : Members) → is_set_whole ms ms ≡ false
not_whole ms =
    let none : (n : ℕ) → nat_lt n (n - n) ≡ false = λ n. grind (arith, nat_tests) in
    ap (λ n. nat_lt n (member_count ms - n) && nat_lt n (member_count ms)) (kept-same ms)
    ∙ ap (λ b. b && nat_lt (member_count ms) (member_count ms)) (none (member_count ms))

no_longer : (b : Bool) (n : ℕ) → (b && nat_lt n n) ≡ false
no_longer b n = and_right b (nat_lt n n) (grind (arith, nat_tests))

mutual
  pub differences-same : (t : Tree) → differences t t ≡ []
  differences-same (text value) = ap (λ b. if b then [] else here (Some (text value))) (same_text-self value)
  differences-same (sequence ts) = elements-same ts (before_end ts ts) 0
  differences-same (mapping ms) =
      ap (λ b. if b then here (Some (mapping ms)) else member_differences ms ms) (not_whole ms) ∙ members-same ms

  elements-same : (ts : Elements) (ahead index : ℕ) → element_differences ahead index ts ts ≡ []
  elements-same no_element ahead index = refl
  elements-same (element t ts) ahead index =
      ap (λ b. if b then record { path = index_token index ∷ []; value = None } ∷ element_differences ahead index ts (element t ts)
      else map (below (index_token index)) (differences t t) ++ element_differences (ahead - 1) (index + 1) ts ts)
      (no_longer (ahead == 0) (count ts))
      ∙ ap₂ (λ ds es. map (below (index_token index)) ds ++ es) (differences-same t) (elements-same ts (ahead - 1) (index + 1))

  members-same : (ms : Members) → member_differences ms ms ≡ []
  members-same no_member = refl
  members-same (member k t ms) =
      ap (λ b. if b then map (below k) (differences t t) ++ member_differences ms ms
      else record { path = k ∷ []; value = None } ∷ member_differences ms (member k t ms)) (same_text-self k)
      ∙ ap₂ (λ ds es. map (below k) ds ++ es) (differences-same t) (members-same ms)
