-- One step in a tree of src/: the index and the pair that the code finds, and what the definitions say there.
use Rattle.std.proofs.Common.{◌≡◌, ℕ, ◌<◌, ◌≤◌, Bool, true, false, cond, nat_lt, List, [], ◌∷◌, ◌++◌, length, get_or, set, codes, Option}
use Rattle.std.proofs.Common.{Some, None, option_map, Result, Ok, Err, Global, Vec, vec_len, refl, sym, ap, ◌∙◌, arith, rules}
use Rattle.tree_path.proofs.Prelude.{remove, ok_or, chars, IsUtf8, bytes_eq, nat_tests, same_from_decides, bytes_eq-Decides}
use Rattle.tree_path.proofs.Prelude.{compares_Decides, encodes-chars, same_text, sequence, mapping, Pair, tree_of, elements_of, members_of}
use Rattle.tree_path.proofs.Prelude.{text_bytes, Text}
use lib.Utf8.{encodes, encode}
use Rattle.{yaml_data.specs.declared.tree.Tree.Tree, tree_path.specs.declared.place.Miss.{Miss, TheVariants.{Absent, NoIndex}}}
use Rattle.tree_path.specs.Paths.{Index, number, after_last, no_index, is_number, number_after, index_of, at_index, present, element_at}
use Rattle.tree_path.specs.{Paths.{put_element, cut_element, push_element, child, put, cut}, Steps.{number_of, index_below, key_place}}
use Rattle.tree_path.proofs.Places.{value_of-place, put_member-place, cut_member-place, value_of-absent, put_member-absent}
use Rattle.tree_path.proofs.Places.{cut_member-absent, element_at-index, put_element-index, cut_element-index, element_at-past}
use Rattle.tree_path.proofs.Places.{put_element-past, cut_element-past, push_element-last}
use Rattle.yaml_grammar.specs.Trees as grammar

-- ---- what a token is

-- the token `-`, by its bytes
pub bytes_eq-dash : (token : List ℕ) → IsUtf8 token → bytes_eq token (45 ∷ []) ≡ same_text (chars token) (codes "-")
unfolding chars encode
bytes_eq-dash token utf8 =
    let decides = compares_Decides same_text (search rules) (chars token) (codes "-") in
    same_from_decides _ _ (bytes_eq-Decides token (45 ∷ []))
    (λ t. sym (encodes-chars token utf8) ∙ ap encodes (decides.0 t), λ e. decides.1 (ap chars e))

-- `-` is no index of an element
pub index_below-dash : (token : List ℕ) (count : ℕ) → same_text token (codes "-") ≡ true → index_below token count ≡ Err Absent
index_below-dash token count is = rw is

-- nor is a token that spells no number
pub index_below-other : (token : List ℕ) (count : ℕ) → same_text token (codes "-") ≡ false → number_of token ≡ None
    → index_below token count ≡ Err NoIndex
index_below-other token count is none =
    let P : Bool → Type 0 = λ b. cond b (Some (number_after 0 token)) None ≡ None
    → at_index (cond b (number (number_after 0 token)) no_index) (λ n. cond (nat_lt n count) (Some n) None) (Err Absent) ≡ Err NoIndex in
    rw is ((elim (is_number token) as P [ true ↦ λ e. cc | false ↦ λ e. refl ]) none)

-- ---- sequences, at what a token means

abbrev below : Index → ℕ → Result ℕ Miss
below index count = at_index index (λ n. cond (nat_lt n count) (Some n) None) (Err Absent)

-- the test of numbers, as a fact
pub below_true : (n count : ℕ) → nat_lt n count ≡ true → n < count
below_true n count is = grind (arith, nat_tests)

pub below_false : (n count : ℕ) → nat_lt n count ≡ false → count ≤ n
below_false n count is = grind (arith, nat_tests)

below-Ok : (index : Index) (count i : ℕ) → below index count ≡ Ok i → (index ≡ number i) × (i < count)
below-Ok (number n) count i is =
    let P : Bool → Type 0 = λ b. nat_lt n count ≡ b → present (cond b (Some n) None) ≡ Ok i → (number n ≡ number i) × (i < count) in
    (elim (nat_lt n count) as P [
      | true ↦ λ t e. let same : n ≡ i = cc in let lt = below_true n count t in (ap number same, omega arith)
      | false ↦ λ t e. cc
    ]) refl is
below-Ok after_last count i is = cc
below-Ok no_index count i is = cc

-- what is missed at an index is missed in each list of that many
below-Err : {A : Type 0} (index : Index) (count : ℕ) (miss : Miss) (inside : ℕ → Option A) (after : Result A Miss)
    → ((n : ℕ) → count ≤ n → inside n ≡ None) → (index ≡ after_last → after ≡ Err Absent)
    → below index count ≡ Err miss → at_index index inside after ≡ Err miss
below-Err (number n) count miss inside after past last is =
    let P : Bool → Type 0 = λ b. nat_lt n count ≡ b → present (cond b (Some n) None) ≡ Err miss → present (inside n) ≡ Err miss in
    (elim (nat_lt n count) as P [
      | true ↦ λ t e. cc
      | false ↦ λ t e. let same : Absent ≡ miss = cc in ap present (past n (below_false n count t)) ∙ ap Err same
    ]) refl is
below-Err after_last count miss inside after past last is = let same : Absent ≡ miss = cc in last refl ∙ ap Err same
below-Err no_index count miss inside after past last is = let same : NoIndex ≡ miss = cc in ap Err same

-- another token than `-` is not the place after the last
pub not_last : (token : List ℕ) → same_text token (codes "-") ≡ false → index_of token ≡ after_last → ⊥
not_last token other is =
    let P : Bool → Type 0 = λ b. cond b (number (number_after 0 token)) no_index ≡ after_last → ⊥ in
    (elim (is_number token) as P [ true ↦ λ e. cc | false ↦ λ e. cc ]) (rw other at is)

-- a step into a sequence leads to the element
pub child-Seq : (ts : List Tree) (token : List ℕ) (i : ℕ) (d : Tree) → index_below token (length ts) ≡ Ok i
    → (i < length ts) × (child (sequence (elements_of ts)) token ≡ Ok (tree_of (get_or ts i d)))
unfolding child
child-Seq ts token i d is =
    let b = below-Ok (index_of token) (length ts) i is in
    (b.1, ap (λ index. at_index index (element_at (elements_of ts)) (Err Absent)) b.0 ∙ ap present (element_at-index ts i d b.1))

-- or fails
pub child-Seq-missed : (ts : List Tree) (token : List ℕ) (miss : Miss) → index_below token (length ts) ≡ Err miss
    → child (sequence (elements_of ts)) token ≡ Err miss
unfolding child
child-Seq-missed ts token miss is =
    below-Err (index_of token) (length ts) miss (element_at (elements_of ts)) (Err Absent) (element_at-past ts) (λ _. refl) is

-- an element is replaced
pub put-Seq : (ts : List Tree) (token : List ℕ) (i : ℕ) (t : Tree) → index_below token (length ts) ≡ Ok i
    → put (sequence (elements_of ts)) token (tree_of t) ≡ Ok (sequence (elements_of (set ts i t)))
unfolding put
put-Seq ts token i t is =
    let b = below-Ok (index_of token) (length ts) i is in
    ap (λ index. at_index index (λ n. option_map sequence (put_element (elements_of ts) n (tree_of t)))
    (Ok (sequence (push_element (elements_of ts) (tree_of t))))) b.0
    ∙ ap (λ o. present (option_map sequence o)) (put_element-index ts i t b.1)

-- or isn't there
pub put-Seq-missed : (ts : List Tree) (token : List ℕ) (v : grammar.Tree) (miss : Miss) → same_text token (codes "-") ≡ false
    → index_below token (length ts) ≡ Err miss → put (sequence (elements_of ts)) token v ≡ Err miss
unfolding put
put-Seq-missed ts token v miss other is =
    below-Err (index_of token) (length ts) miss (λ n. option_map sequence (put_element (elements_of ts) n v))
    (Ok (sequence (push_element (elements_of ts) v)))
    (λ n past. ap (option_map sequence) (put_element-past ts n v past)) (λ e. absurd (not_last token other e)) is

-- or is added at the end
pub put-Seq-last : (ts : List Tree) (token : List ℕ) (t : Tree) → same_text token (codes "-") ≡ true
    → put (sequence (elements_of ts)) token (tree_of t) ≡ Ok (sequence (elements_of (ts ++ t ∷ [])))
unfolding put
put-Seq-last ts token t is = rw is (ap (λ us. Ok (sequence us)) (push_element-last ts t))

-- an element is taken out
pub cut-Seq : (ts : List Tree) (token : List ℕ) (i : ℕ) → index_below token (length ts) ≡ Ok i
    → cut (sequence (elements_of ts)) token ≡ Ok (sequence (elements_of (remove ts i)))
unfolding cut
cut-Seq ts token i is =
    let b = below-Ok (index_of token) (length ts) i is in
    ap (λ index. at_index index (λ n. option_map sequence (cut_element (elements_of ts) n)) (Err Absent)) b.0
    ∙ ap (λ o. present (option_map sequence o)) (cut_element-index ts i b.1)

-- or isn't there
pub cut-Seq-missed : (ts : List Tree) (token : List ℕ) (miss : Miss) → index_below token (length ts) ≡ Err miss
    → cut (sequence (elements_of ts)) token ≡ Err miss
unfolding cut
cut-Seq-missed ts token miss is =
    below-Err (index_of token) (length ts) miss (λ n. option_map sequence (cut_element (elements_of ts) n)) (Err Absent)
    (λ n past. ap (option_map sequence) (cut_element-past ts n past)) (λ _. refl) is

-- ---- mappings, at the pair with the key

-- the place of a key is one of a pair
pub place-within : (ps : List Pair) (key : List ℕ) (i : ℕ) → key_place key ps ≡ Some i → i < length ps
place-within ps key i is = (value_of-place key ps i is).0

-- a step into a mapping leads to the value
pub child-Map : (ps : List Pair) (key : List ℕ) (i : ℕ) (d : Pair) → key_place key ps ≡ Some i
    → child (mapping (members_of ps)) key ≡ Ok (tree_of (get_or ps i d).1)
unfolding child
child-Map ps key i d is = ap present ((value_of-place key ps i is).1 d)

-- or fails
pub child-Map-missed : (ps : List Pair) (key : List ℕ) → key_place key ps ≡ None → child (mapping (members_of ps)) key ≡ Err Absent
unfolding child
child-Map-missed ps key is = ap present (value_of-absent key ps is)

-- a value is replaced
pub put-Map : (ps : List Pair) (key : List ℕ) (i : ℕ) (t : Tree) (d : Pair) → key_place key ps ≡ Some i
    → put (mapping (members_of ps)) key (tree_of t) ≡ Ok (mapping (members_of (set ps i ((get_or ps i d).0, t))))
unfolding put
put-Map ps key i t d is = ap (λ ms. Ok (mapping ms)) (put_member-place key ps i t d is)

-- or added with its key at the end
pub put-Map-last : (ps : List Pair) (key : List ℕ) (k : Text) (t : Tree) → key_place key ps ≡ None → chars (text_bytes k) ≡ key
    → put (mapping (members_of ps)) key (tree_of t) ≡ Ok (mapping (members_of (ps ++ (k, t) ∷ [])))
unfolding put
put-Map-last ps key k t is named = ap (λ ms. Ok (mapping ms)) (put_member-absent key ps k t is named)

-- any step into a text is missed
pub child-Text : (value token : List ℕ) → child (grammar.text value) token ≡ Err Absent
unfolding child
child-Text value token = refl

-- a text has no parts to replace
pub put-Text : (value token : List ℕ) (v : grammar.Tree) → put (grammar.text value) token v ≡ Err Absent
unfolding put
put-Text value token v = refl

-- nor to take out
pub cut-Text : (value token : List ℕ) → cut (grammar.text value) token ≡ Err Absent
unfolding cut
cut-Text value token = refl

-- a member is taken out
pub cut-Map : (ps : List Pair) (key : List ℕ) (i : ℕ) → key_place key ps ≡ Some i
    → cut (mapping (members_of ps)) key ≡ Ok (mapping (members_of (remove ps i)))
unfolding cut
cut-Map ps key i is = ap (λ o. present (option_map mapping o)) (cut_member-place key ps i is)

-- or isn't there
pub cut-Map-missed : (ps : List Pair) (key : List ℕ) → key_place key ps ≡ None → cut (mapping (members_of ps)) key ≡ Err Absent
unfolding cut
cut-Map-missed ps key is = ap (λ o. present (option_map mapping o)) (cut_member-absent key ps is)

-- ---- what the code found

-- the index that the code finds, by the length of its vector
pub index-counted : {A : Type 0} (v : Vec A Global) (token : List ℕ) (count : ℕ) (r : Result ℕ Miss) → count ≡ vec_len v
    → r ≡ index_below token count → index_below token (length v.items) ≡ r
index-counted v token count r counted is =
    let e : length v.items ≡ count = search rules in ap (index_below token) e ∙ sym is

-- the place that the code finds
pub place-found : (o : Option ℕ) (key : List ℕ) (ps qs : List Pair) (i : ℕ) → Ok i ≡ ok_or o Absent
    → o ≡ key_place key ps → ps ≡ qs → key_place key qs ≡ Some i
place-found None key ps qs i is found same = cc
place-found (Some n) key ps qs i is found same = let e : n ≡ i = cc in ap (key_place key) (sym same) ∙ sym found ∙ ap Some e

-- or misses
pub place-missed : (o : Option ℕ) (key : List ℕ) (ps qs : List Pair) (miss : Miss) → Err miss ≡ ok_or o Absent
    → o ≡ key_place key ps → ps ≡ qs
    → (key_place key qs ≡ None) × (Absent ≡ miss)
place-missed None key ps qs miss is found same = (ap (key_place key) (sym same) ∙ sym found, cc)
place-missed (Some n) key ps qs miss is found same = cc
