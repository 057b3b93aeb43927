-- The tests of a line by which a mapping goes on with a further pair.
use Rattle.std.{proofs.Common.{ap, arith, inl, inr, length, refl, sym, ◌<◌, ◌∙◌, ◌≡◌, eq-eqb}, specs.Prelude.{Bool, List, [], false}}
use Rattle.std.specs.Prelude.{nat_lt, not, true, ℕ, ◌&&◌, ◌==◌, ◌||◌, ◌∷◌}
use Rattle.yaml_block.proofs.Prelude.{IsUtf8, IsCharBoundary, cases_Bool, eqb-true, and_left, and_right, cases_eq, false≢true, le-ltb}
use Rattle.yaml_block.proofs.Prelude.{ne_eqb, or_right, rest, rest-end, char_at, spaces_before, is_empty, marker, is_line_end}
use Rattle.yaml_block.proofs.Prelude.{block_node_stops}

-- nothing goes on at the text's end, at a marker, or at a line of white space or a comment
abbrev pub stops_all : List ℕ → Bool
stops_all text = is_empty text || marker text || is_line_end text

-- a pair goes on at any other line with its spaces
pub pair_test : (k : ℕ) (text : List ℕ) → (spaces_before text == k) && not (block_node_stops k false text)
    ≡ (spaces_before text == k) && not (stops_all text)
pair_test k text = elim (cases_eq (spaces_before text) k) [
  | inl e ↦ (let l : nat_lt (spaces_before text) k ≡ false = le-ltb (spaces_before text) k (omega (arith, e)) in ap
      (λ b. (spaces_before text == k) && not b) (less l (stops_all text)))
  | inr n ↦ (let i : (spaces_before text == k) ≡ false = ne_eqb (spaces_before text) k n in and_left _ _ i
      ∙ sym (and_left _ _ i))
]
  where
    less : nat_lt (spaces_before text) k ≡ false → (b : Bool) → b || (nat_lt (spaces_before text) k && true) ≡ b
    less l true = refl
    less l false = rw l refl

-- a line of another depth doesn't go on with the collection
pub not_as_deep : (k : ℕ) (text : List ℕ) (b : Bool) → (spaces_before text ≡ k → ⊥)
    → false ≡ (spaces_before text == k) && b
not_as_deep k text b n = sym (and_left _ b (ne_eqb (spaces_before text) k n))

-- a line that ends all collections has no further pair
pub pair_stops : (k : ℕ) (text : List ℕ) → stops_all text ≡ true
    → false ≡ (spaces_before text == k) && not (block_node_stops k false text)
pair_stops k text s = sym (pair_test k text ∙ and_right (spaces_before text == k) _ (ap not s))

stops_at_line_end : (text : List ℕ) → is_line_end text ≡ true → stops_all text ≡ true
stops_at_line_end text h = or_right (is_empty text || marker text) (is_line_end text) h

stops_at_end : (text : List ℕ) → text ≡ [] → stops_all text ≡ true
stops_at_end text e = ap stops_all e

-- nor has a comment line
pub no_pair_at_line_end : (k : ℕ) (text : List ℕ) → is_line_end text ≡ true
    → false ≡ (spaces_before text == k) && not (block_node_stops k false text)
no_pair_at_line_end k text h = pair_stops k text (stops_at_line_end text h)

-- nor has the end of the text
pub no_pair_at_end : (bs : List ℕ) (k start : ℕ) → start ≡ length bs
    → false ≡ (spaces_before (rest bs start) == k) && not (block_node_stops k false (rest bs start))
no_pair_at_end bs k start e = pair_stops k (rest bs start)
    (stops_at_end (rest bs start) (rest-end bs start (omega (arith, e))))

-- a marker is no further pair
pub pair_by_marker : (k : ℕ) (text : List ℕ) → spaces_before text ≡ k → is_line_end text ≡ false
    → is_empty text ≡ false
    → not (marker text) ≡ (spaces_before text == k) && not (block_node_stops k false text)
pair_by_marker k text s l e = sym (pair_test k text
    ∙ by_tests (spaces_before text == k) (is_empty text) (marker text) (is_line_end text)
    (eq-eqb (spaces_before text) k s) e l)
  where
    by_tests : (a b c d : Bool) → a ≡ true → b ≡ false → d ≡ false → a && not (b || c || d) ≡ not c
    by_tests true false true false h i j = refl
    by_tests true false false false h i j = refl
    by_tests false b c d h i j = absurd (false≢true h)
    by_tests true true c d h i j = absurd (false≢true (sym i))
    by_tests true false c true h i j = absurd (false≢true (sym j))

-- before the end of the text there is a character
pub filled_there : (bs : List ℕ) (at : ℕ) → IsUtf8 bs → IsCharBoundary bs at → at < length bs
    → is_empty (rest bs at) ≡ false
filled_there bs at u b l = ap is_empty (char_at bs at u b l).1.splits

-- behind spaces is neither the end of the text nor a marker
pub spaces_before_no_marker : (k : ℕ) (text : List ℕ) → 0 < k → spaces_before text ≡ k
    → (is_empty text ≡ false) × (marker text ≡ false)
spaces_before_no_marker k [] l e = absurd (omega (arith, l, e))
spaces_before_no_marker k (c ∷ cs) l e = elim (cases_Bool (c == 32)) [
  | inl s ↦ (refl, ap (λ x. marker (x ∷ cs)) (eqb-true c 32 s) ∙ unmarked cs)
  | inr n ↦ (let z : 0 ≡ k = rw n at e in absurd (omega (arith, l, z)))
]
  where
    unmarked : (cs : List ℕ) → marker (32 ∷ cs) ≡ false
    unmarked [] = refl
    unmarked (a ∷ []) = refl
    unmarked (a ∷ b ∷ cs) = refl

-- a pair goes on at a line with its spaces, if there are any
pub pair_after_spaces : (k : ℕ) (text : List ℕ) → 0 < k → spaces_before text ≡ k → is_line_end text ≡ false
    → true ≡ (spaces_before text == k) && not (block_node_stops k false text)
pair_after_spaces k text l s e =
    let there = spaces_before_no_marker k text l s in
    sym (ap not there.1) ∙ pair_by_marker k text s e there.0
