-- Elements and members, one list after another: what a step leads to between them, and what an edit there leaves.
use Rattle.std.proofs.Common.{◌≡◌, ℕ, ◌+◌, Bool, true, false, cond, List, Some, option_map, refl, sym, ap, subst, ◌∙◌, arith}
use Rattle.tree_diff.proofs.Prelude.{same_text, Tree, Elements, no_element, element, Members, no_member, member, has_key, join_elements}
use Rattle.tree_diff.proofs.Prelude.{join_members, element_at, put_element, cut_element, push_element, value_of, put_member, cut_member}
use Rattle.tree_diff.{proofs.Prelude.{same_text-true, same_text-self, or_parts, or_from}, specs.Choices.count}

-- ---- elements

pub count-join : (ts us : Elements) → count (join_elements ts us) ≡ count ts + count us
count-join no_element us = omega arith
count-join (element t ts) us = let more = count-join ts us in omega arith

pub join_elements-none : (ts : Elements) → join_elements ts no_element ≡ ts
join_elements-none no_element = refl
join_elements-none (element t ts) = ap (element t) (join_elements-none ts)

pub join_elements-next : (ts us : Elements) (t : Tree)
    → join_elements (join_elements ts (element t no_element)) us ≡ join_elements ts (element t us)
join_elements-next no_element us t = refl
join_elements-next (element s ts) us t = ap (element s) (join_elements-next ts us t)

pub element_at-join : (ts us : Elements) (t : Tree) → element_at (join_elements ts (element t us)) (count ts) ≡ Some t
element_at-join no_element us t = refl
element_at-join (element s ts) us t = element_at-join ts us t

pub put_element-join : (ts us : Elements) (t v : Tree)
    → put_element (join_elements ts (element t us)) (count ts) v ≡ Some (join_elements ts (element v us))
put_element-join no_element us t v = refl
put_element-join (element s ts) us t v = ap (option_map (element s)) (put_element-join ts us t v)

pub cut_element-join : (ts us : Elements) (t : Tree) → cut_element (join_elements ts (element t us)) (count ts) ≡ Some (join_elements ts us)
cut_element-join no_element us t = refl
cut_element-join (element s ts) us t = ap (option_map (element s)) (cut_element-join ts us t)

pub push_element-join : (ts : Elements) (v : Tree) → push_element ts v ≡ join_elements ts (element v no_element)
push_element-join no_element v = refl
push_element-join (element s ts) v = ap (element s) (push_element-join ts v)

-- ---- members

pub join_members-none : (ms : Members) → join_members ms no_member ≡ ms
join_members-none no_member = refl
join_members-none (member k t ms) = ap (member k t) (join_members-none ms)

pub join_members-next : (ms ns : Members) (k : List ℕ) (t : Tree)
    → join_members (join_members ms (member k t no_member)) ns ≡ join_members ms (member k t ns)
join_members-next no_member ns k t = refl
join_members-next (member l s ms) ns k t = ap (member l s) (join_members-next ms ns k t)

pub value_of-join : (ms ns : Members) (k : List ℕ) (t : Tree) → has_key k ms ≡ false → value_of (join_members ms (member k t ns)) k ≡ Some t
value_of-join no_member ns k t free = ap (λ b. cond b (Some t) (value_of ns k)) (same_text-self k)
value_of-join (member l s ms) ns k t free =
    let parts = or_parts (same_text k l) (has_key k ms) free in
    ap (λ b. cond b (Some s) (value_of (join_members ms (member k t ns)) k)) parts.0 ∙ value_of-join ms ns k t parts.1

pub put_member-join : (ms ns : Members) (k : List ℕ) (t v : Tree) → has_key k ms ≡ false
    → put_member (join_members ms (member k t ns)) k v ≡ join_members ms (member k v ns)
put_member-join no_member ns k t v free = ap (λ b. cond b (member k v ns) (member k t (put_member ns k v))) (same_text-self k)
put_member-join (member l s ms) ns k t v free =
    let parts = or_parts (same_text k l) (has_key k ms) free in
    let after = join_members ms (member k t ns) in
    ap (λ b. cond b (member l v after) (member l s (put_member after k v))) parts.0
    ∙ ap (member l s) (put_member-join ms ns k t v parts.1)

pub put_member-new : (ms : Members) (k : List ℕ) (v : Tree) → has_key k ms ≡ false
    → put_member ms k v ≡ join_members ms (member k v no_member)
put_member-new no_member k v free = refl
put_member-new (member l s ms) k v free =
    let parts = or_parts (same_text k l) (has_key k ms) free in
    ap (λ b. cond b (member l v ms) (member l s (put_member ms k v))) parts.0 ∙ ap (member l s) (put_member-new ms k v parts.1)

pub cut_member-join : (ms ns : Members) (k : List ℕ) (t : Tree) → has_key k ms ≡ false
    → cut_member (join_members ms (member k t ns)) k ≡ Some (join_members ms ns)
cut_member-join no_member ns k t free = ap (λ b. cond b (Some ns) (option_map (member k t) (cut_member ns k))) (same_text-self k)
cut_member-join (member l s ms) ns k t free =
    let parts = or_parts (same_text k l) (has_key k ms) free in
    let after = join_members ms (member k t ns) in
    ap (λ b. cond b (Some after) (option_map (member l s) (cut_member after k))) parts.0
    ∙ ap (option_map (member l s)) (cut_member-join ms ns k t parts.1)

-- ---- keys that are not among others

-- none of the keys of the second members is one of the first
abbrev pub Free : Members → Members → Type 0
Free ms no_member = Unit {0}
Free ms (member k t ns) = (has_key k ms ≡ false) × Free ms ns

pub Free-none : (ns : Members) → Free no_member ns
Free-none no_member = tt
Free-none (member k t ns) = (refl, Free-none ns)

same_text-false : (k l : List ℕ) → same_text k l ≡ false → same_text l k ≡ false
same_text-false k l differ =
    let P : Bool → Type 0 = λ b. same_text l k ≡ b → b ≡ false in
    (elim (same_text l k) as P [
      | true ↦ λ e.
          let same : l ≡ k = same_text-true l k e in
          let again : same_text k l ≡ true = subst (λ x. same_text k x ≡ true) (sym same) (same_text-self k) in
          cc
      | false ↦ λ e. refl
    ]) refl

has_key-next : (ms : Members) (k l : List ℕ) (t : Tree) → has_key l ms ≡ false → same_text l k ≡ false
    → has_key l (join_members ms (member k t no_member)) ≡ false
has_key-next no_member k l t free differ = or_from (same_text l k) false differ refl
has_key-next (member m s ms) k l t free differ =
    let parts = or_parts (same_text l m) (has_key l ms) free in
    or_from (same_text l m) (has_key l (join_members ms (member k t no_member))) parts.0 (has_key-next ms k l t parts.1 differ)

-- one more key that is not among them
pub Free-next : (ns ms : Members) (k : List ℕ) (t : Tree) → Free ms ns → has_key k ns ≡ false
    → Free (join_members ms (member k t no_member)) ns
Free-next no_member ms k t free other = tt
Free-next (member l u ns) ms k t free other =
    let parts = or_parts (same_text k l) (has_key k ns) other in
    (has_key-next ms k l t free.0 (same_text-false k l parts.0), Free-next ns ms k t free.1 parts.1)
