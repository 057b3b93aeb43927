-- The lengths that the code finds, as those of the definitions' edits.
use Rattle.std.proofs.Common.{◌≡◌, ℕ, suc, ◌+◌, ◌-◌, ◌*◌, ◌^◌, ◌<◌, ◌≤◌, ◌==◌, Bool, true, false, if◌then◌else◌, List, [], ◌∷◌, ◌++◌}
use Rattle.std.proofs.Common.{length, codes, Ok, Err, Global, Vec, vec_len, refl, sym, ap, subst, ◌∙◌, arith, rules}
use Rattle.yaml_config.proofs.Prelude.{same_text, sequence, mapping, Pair, elements_of, members_of, length_at, Size, after_last, index_of}
use Rattle.yaml_config.proofs.Prelude.{push_element, put_member, child, put, cut, refusal, set, delete, Miss, put-there, set-edit}
use Rattle.yaml_config.proofs.{Prelude.delete-edit, ChangeLaws.{element_count, member_count, put-replaces, push-grows, put-grows, put_last}}
use Rattle.yaml_config.proofs.ChangeLaws.{put_new, cut_sequence-there, cut_mapping-there, put-collection, cut-collection}
use Rattle.yaml_config.{proofs.Located.{edit-Located, missed-Located, changes-whole}, specs.declared.change.{Change.Change, Slot.Slot}}
use Rattle.yaml_config.specs.{declared.change.Slot.TheVariants.{Value, Element}, Changes.{Changes, ChangesNode, ChangesSmall, Located}}
use Rattle.yaml_config.specs.Changes.{slot_in, child_size, element_row, member_row, first_row, growth, reversed_change, shifted_change}
use Rattle.yaml_data.specs.declared.tree.Tree.{Tree}
use Rattle.yaml_grammar.specs.Trees as grammar

-- ---- counts

elements_counted : (ts : List Tree) → element_count (elements_of ts) ≡ length ts
elements_counted [] = refl
elements_counted (t ∷ ts) = ap suc (elements_counted ts)

members_counted : (ps : List Pair) → member_count (members_of ps) ≡ length ps
members_counted [] = refl
members_counted (p ∷ ps) = ap suc (members_counted ps)

-- the length of a vector is the length of its list
pub vec_counted : {A : Type 0} (v : Vec A Global) (count : ℕ) → count ≡ vec_len v → length v.items ≡ count
vec_counted v count counted = search rules

-- `-` is the place after the last element
pub dash_index : (token : List ℕ) → same_text token (codes "-") ≡ true → index_of token ≡ after_last
dash_index token is = rw is refl

-- ---- small numbers

-- the numbers of the size fit the code's type
pub record IsSmallSize (size : Size) : Type 0 where
  pub bytes : size.bytes < 2 ^ 80
  pub lines : size.lines < 2 ^ 33

record IsSmallChange (change : Change) : Type 0 where
  removed : IsSmallSize change.removed
  -- a member that is added at the end
  added : IsSmallSize change.added

first_row-small : (slot : Slot) (row : Size) → IsSmallSize row → IsSmallSize (first_row slot row)
first_row-small Value row small = small
first_row-small Element row small = let bytes = small.bytes in let lines = small.lines in record { bytes = bytes; lines = omega arith }

growth-small : (count : ℕ) (row : Size) (slot : Slot) → IsSmallSize row → IsSmallChange (growth count row slot)
growth-small count row slot small = by (count == 0)
  where
    by : (b : Bool) → IsSmallChange (if b then record { removed = record { bytes = 3; lines = 0 }; added = first_row slot row }
        else record { removed = record { bytes = 0; lines = 0 }; added = row })
    by true = record { removed = record { bytes = omega arith; lines = omega arith }; added = first_row-small slot row small }
    by false = record { removed = record { bytes = omega arith; lines = omega arith }; added = small }

changed : (slot : Slot) (change : Change) (t w : grammar.Tree) → IsSmallSize change.removed → IsSmallSize change.added
    → ChangesNode slot change t w
    → ChangesSmall slot change t w
changed slot change t w removed added is =
    let a = removed.bytes in
    let b = removed.lines in
    let c = added.bytes in
    let d = added.lines in
    record { changes = is; removed_bytes = omega arith; removed_lines = omega arith; added_bytes = omega arith; added_lines = omega arith }

-- ---- one step

abbrev Put : Slot → Change → grammar.Tree → List ℕ → grammar.Tree → Type 0
Put slot change t token v = (w : grammar.Tree) × (put t token v ≡ Ok w) × ChangesSmall slot change t w

abbrev Cut : Slot → Change → grammar.Tree → List ℕ → Type 0
Cut slot change t token = (w : grammar.Tree) × (cut t token ≡ Ok w) × ChangesSmall slot change t w

-- a value that is replaced
pub replaced : (slot : Slot) (t u v : grammar.Tree) (token : List ℕ) (removed added : Size) → child t token ≡ Ok u
    → removed ≡ child_size (slot_in t) u → added ≡ child_size (slot_in t) v → IsSmallSize removed → IsSmallSize added
    → Put slot (record { removed = removed; added = added }) t token v
replaced slot t u v token removed added found out in_ small_out small_in =
    let w = put-there t token u v found in (
      w.0,
      w.1,
      changed slot (record { removed = removed; added = added }) t w.0 small_out small_in
          (λ n.
          let law = put-replaces slot t w.0 u v token n found w.1 in
          let a = ap (λ s. length_at s n) out in
          let b = ap (λ s. length_at s n) in_ in
          omega arith),
    )

-- an element that is added at the end
pub pushed : (slot : Slot) (t : grammar.Tree) (ts : List Tree) (v : grammar.Tree) (token : List ℕ) (count : ℕ)
    (row : Size) (change : Change)
    → t ≡ sequence (elements_of ts) → index_of token ≡ after_last → length ts ≡ count → row ≡ element_row v → IsSmallSize row
    → change ≡ growth count row slot → Put slot change t token v
pushed slot t ts v token count row change is last counted sized small grown =
    let k : element_count (elements_of ts) ≡ count = elements_counted ts ∙ counted in
    let same : change ≡ growth (element_count (elements_of ts)) (element_row v) slot =
    grown ∙ ap (λ r. growth count r slot) sized ∙ ap (λ n. growth n (element_row v) slot) (sym k) in
    let row_small = subst IsSmallSize sized small in
    let bounds = growth-small (element_count (elements_of ts)) (element_row v) slot row_small in
    subst (λ x. Put slot change x token v) (sym is)
    (subst (λ c. Put slot c (sequence (elements_of ts)) token v) (sym same) (
      sequence (push_element (elements_of ts) v),
      put_last (elements_of ts) v token last,
      changed slot _ (sequence (elements_of ts))
          (sequence (push_element (elements_of ts) v)) bounds.removed bounds.added (push-grows slot (elements_of ts) v),
    ))

-- the change of a new member at the end of a mapping
pub added : (slot : Slot) (t : grammar.Tree) (ps : List Pair) (v : grammar.Tree) (token : List ℕ) (miss : Miss)
    (count : ℕ) (row : Size) (change : Change)
    → t ≡ mapping (members_of ps) → child t token ≡ Err miss → length ps ≡ count → row ≡ member_row token v → IsSmallSize row
    → change ≡ growth count row slot → Put slot change t token v
added slot t ps v token miss count row change is missed counted sized small grown =
    let k : member_count (members_of ps) ≡ count = members_counted ps ∙ counted in
    let same : change ≡ growth (member_count (members_of ps)) (member_row token v) slot =
    grown ∙ ap (λ r. growth count r slot) sized ∙ ap (λ n. growth n (member_row token v) slot) (sym k) in
    let row_small = subst IsSmallSize sized small in
    let bounds = growth-small (member_count (members_of ps)) (member_row token v) slot row_small in
    let new = put_new (members_of ps) v token miss (subst (λ x. child x token ≡ Err miss) is missed) in
    subst (λ x. Put slot change x token v) (sym is)
    (subst (λ c. Put slot c (mapping (members_of ps)) token v) (sym same) (
      mapping (put_member (members_of ps) token v),
      new.0,
      changed slot _ (mapping (members_of ps)) (mapping (put_member (members_of ps) token v)) bounds.removed bounds.added
          (λ n. put-grows slot (members_of ps) token v n new.1),
    ))

-- a step into a sequence finds an element
pub some_elements : (t u : grammar.Tree) (ts : List Tree) (token : List ℕ) → t ≡ sequence (elements_of ts)
    → child t token ≡ Ok u → 1 ≤ length ts
some_elements t u ts token is found =
    let p = cut_sequence-there Value (elements_of ts) u token (subst (λ x. child x token ≡ Ok u) is found) in
    omega (arith, p.2, elements_counted ts)

-- a step into a mapping finds a member
pub some_members : (t u : grammar.Tree) (ps : List Pair) (token : List ℕ) → t ≡ mapping (members_of ps)
    → child t token ≡ Ok u → 1 ≤ length ps
some_members t u ps token is found =
    let p = cut_mapping-there Value (members_of ps) u token (subst (λ x. child x token ≡ Ok u) is found) in
    omega (arith, p.2, members_counted ps)

-- an element that is taken out
pub taken_element : (slot : Slot) (t u : grammar.Tree) (ts : List Tree) (token : List ℕ) (count : ℕ) (row : Size) (grown change : Change)
    → t ≡ sequence (elements_of ts) → child t token ≡ Ok u → length ts ≡ count → row ≡ element_row u → IsSmallSize row
    → grown ≡ growth (count - 1) row slot → change ≡ reversed_change grown → Cut slot change t token
taken_element slot t u ts token count row grown change is found counted sized small grows turned =
    let p = cut_sequence-there slot (elements_of ts) u token (subst (λ x. child x token ≡ Ok u) is found) in
    let total = elements_counted ts in
    let less = p.2 in
    let k : count - 1 ≡ element_count p.0 = omega arith in
    let same : change ≡ reversed_change (growth (element_count p.0) (element_row u) slot) =
    turned ∙ ap reversed_change (grows ∙ ap (λ r. growth (count - 1) r slot) sized ∙ ap (λ n. growth n (element_row u) slot) k) in
    let bounds = growth-small (element_count p.0) (element_row u) slot (subst IsSmallSize sized small) in
    subst (λ x. Cut slot change x token) (sym is)
    (subst (λ c. Cut slot c (sequence (elements_of ts)) token) (sym same)
    (sequence p.0, p.1, changed slot _ (sequence (elements_of ts)) (sequence p.0) bounds.added bounds.removed p.3))

-- a member that is taken out
pub taken_member : (slot : Slot) (t u : grammar.Tree) (ps : List Pair) (token : List ℕ) (count : ℕ) (row : Size) (grown change : Change)
    → t ≡ mapping (members_of ps) → child t token ≡ Ok u → length ps ≡ count → row ≡ member_row token u → IsSmallSize row
    → grown ≡ growth (count - 1) row slot → change ≡ reversed_change grown → Cut slot change t token
taken_member slot t u ps token count row grown change is found counted sized small grows turned =
    let p = cut_mapping-there slot (members_of ps) u token (subst (λ x. child x token ≡ Ok u) is found) in
    let total = members_counted ps in
    let less = p.2 in
    let k : count - 1 ≡ member_count p.0 = omega arith in
    let same : change ≡ reversed_change (growth (member_count p.0) (member_row token u) slot) =
    turned ∙ ap reversed_change (grows ∙ ap (λ r. growth (count - 1) r slot) sized ∙ ap (λ n. growth n (member_row token u) slot) k) in
    let bounds = growth-small (member_count p.0) (member_row token u) slot (subst IsSmallSize sized small) in
    subst (λ x. Cut slot change x token) (sym is)
    (subst (λ c. Cut slot c (mapping (members_of ps)) token) (sym same)
    (mapping p.0, p.1, changed slot _ (mapping (members_of ps)) (mapping p.0) bounds.added bounds.removed p.3))

-- ---- whole paths

-- the change of a set
pub set_changes : (path parents : List (List ℕ)) (last : List ℕ) (slot : Slot) (t u v : grammar.Tree) (change : Change)
    → path ≡ parents ++ last ∷ [] → length parents < 2 ^ 64 → Located parents Value t slot u → Put slot change u last v
    → (w : grammar.Tree) × (set t path v ≡ Ok w) × Changes (shifted_change (2 * length parents) change) t w
set_changes path parents last slot t u v change split few low is =
    let e = edit-Located (λ x token. put x token v) parents last 1 Value slot t u is.0 low is.1 in
    let kinds = e.3 (λ x y h. put-collection x v y last h) in (
      e.0,
      ap (λ p. set t p v) split ∙ set-edit parents last t v ∙ e.1,
      changes-whole (length parents) slot change t u is.0 e.0 few e.2 kinds.0 kinds.1 is.2,
    )

-- the change of a delete
pub delete_changes : (path parents : List (List ℕ)) (last : List ℕ) (slot : Slot) (t u : grammar.Tree) (change : Change)
    → path ≡ parents ++ last ∷ [] → length parents < 2 ^ 64 → Located parents Value t slot u → Cut slot change u last
    → (w : grammar.Tree) × (delete t path ≡ Ok w) × Changes (shifted_change (2 * length parents) change) t w
delete_changes path parents last slot t u change split few low is =
    let e = edit-Located cut parents last 1 Value slot t u is.0 low is.1 in
    let kinds = e.3 (λ x y h. cut-collection x y last h) in (
      e.0,
      ap (delete t) split ∙ delete-edit parents last t ∙ e.1,
      changes-whole (length parents) slot change t u is.0 e.0 few e.2 kinds.0 kinds.1 is.2,
    )

-- a set that fails has no change
pub set_misses : (path parents : List (List ℕ)) (last : List ℕ) (step : ℕ) (slot : Slot) (t u v : grammar.Tree) (miss : Miss)
    → path ≡ parents ++ last ∷ [] → step ≡ length parents + 1 → Located parents Value t slot u → put u last v ≡ Err miss
    → set t path v ≡ Err (refusal miss step)
set_misses path parents last step slot t u v miss split count low is =
    ap (λ p. set t p v) split ∙ set-edit parents last t v
    ∙ missed-Located (λ x token. put x token v) parents last 1 Value slot t u miss low is
    ∙ ap (λ k. Err (refusal miss k)) (let n : 1 + length parents ≡ step = omega arith in n)

-- nor has a delete that fails
pub delete_misses : (path parents : List (List ℕ)) (last : List ℕ) (step : ℕ) (slot : Slot) (t u : grammar.Tree) (miss : Miss)
    → path ≡ parents ++ last ∷ [] → step ≡ length parents + 1 → Located parents Value t slot u → cut u last ≡ Err miss
    → delete t path ≡ Err (refusal miss step)
delete_misses path parents last step slot t u miss split count low is =
    ap (delete t) split ∙ delete-edit parents last t
    ∙ missed-Located cut parents last 1 Value slot t u miss low is
    ∙ ap (λ k. Err (refusal miss k)) (let n : 1 + length parents ≡ step = omega arith in n)
