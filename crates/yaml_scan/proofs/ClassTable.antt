-- The table of classes holds what the classes say: 256 closed facts for each class, at once.
use Rattle.std.proofs.Common.{◌≡◌, ℕ, ◌<◌, Bool, false, not, nat_eq, bit_and, ◌≤◌, inl, inr, List, refl, sym, ap, ◌∙◌, arith, get_or}
use Rattle.std.{proofs.{Common.{length, map, true}, lemmas.List.FromFn.get_or-map-range_with_len}, specs.Prelude.{nat_lt, slice_index}}
use Rattle.yaml_scan.proofs.Prelude.{range_with_len, cases_lt, nat_tests, get_or-map, IsCharBoundary, IsUtf8, white, IsRun, IsBlind, run_is}
use Rattle.yaml_scan.{proofs.Prelude.{FlowContext, inner, outer}, specs.declared.classes.{TheConstants.CLASSES, Class.Class}}
use Rattle.yaml_scan.specs.{declared.classes.Class.TheVariants.{Words, WordsInside, SingleQuoted, DoubleQuoted, Line}, Classes.ArePassed}
use Rattle.yaml_scan.specs.Classes.{bit_of, double_quoted, line_ascii, simple, single_quoted, test_of, word}

-- whether a sum of bits has this bit
abbrev pub has : ℕ → ℕ → Bool
has bit k = not (nat_eq (bit_and k bit) 0)

all_classes : (class : Class) → map (has (bit_of class)) CLASSES ≡ map (test_of class) (range_with_len 0 256)
all_classes Words = refl
all_classes WordsInside = refl
all_classes SingleQuoted = refl
all_classes DoubleQuoted = refl
all_classes Line = refl

-- a bit of the table is the test of its class
pub class_is : (class : Class) (b : ℕ) → b < 256 → has (bit_of class) (get_or CLASSES b 0) ≡ test_of class b
class_is class b l =
    sym (get_or-map (has (bit_of class)) CLASSES b 0 false l)
    ∙ (ap (λ t. get_or t b false) (all_classes class) ∙ get_or-map-range_with_len (test_of class) 0 256 b b false l (omega arith))

-- ---- the characters from U+0080 on

no_simple : (c : FlowContext) (x : ℕ) → 128 ≤ x → simple c x ≡ false
no_simple c x h = let e : nat_lt x 128 ≡ false = grind (arith, nat_tests) in rw e refl

blind-word : (c : FlowContext) → IsBlind (word c)
blind-word c x h l = no_word x h ∙ sym (no_word 128 (omega arith))
  where
    no_word : (y : ℕ) → 128 ≤ y → word c y ≡ false
    no_word y k = let e : white y ≡ false = grind (arith, nat_tests) in rw (no_simple c y k, e) refl

blind-single : IsBlind single_quoted
blind-single c h l = grind (arith, nat_tests)

blind-double : IsBlind double_quoted
blind-double c h l = grind (arith, nat_tests)

blind-line : IsBlind line_ascii
blind-line c h l = no_line c h ∙ sym (no_line 128 (omega arith))
  where
    no_line : (y : ℕ) → 128 ≤ y → line_ascii y ≡ false
    no_line y k = let e : nat_lt y 128 ≡ false = grind (arith, nat_tests) in rw e refl

-- the test of a class doesn't distinguish characters from 128 on
pub blind-test : (class : Class) → IsBlind (test_of class)
blind-test Words = blind-word outer
blind-test WordsInside = blind-word inner
blind-test SingleQuoted = blind-single
blind-test DoubleQuoted = blind-double
blind-test Line = blind-line

-- ---- bytes that pass

-- no byte is passed yet
pub passed_none : (test : ℕ → Bool) (bytes : List ℕ) (at : ℕ) → at ≤ length bytes → ArePassed test bytes at at
passed_none test bytes at l = record { above = omega arith; within = l; passes = λ k from to. absurd (omega arith) }

-- bytes passed, and then more
pub passed_joined : (test : ℕ → Bool) (bytes : List ℕ) (i j k : ℕ) → ArePassed test bytes i j
    → ArePassed test bytes j k → ArePassed test bytes i k
passed_joined test bytes i j k h g =
    let above = h.above in
    let further = g.above in
    record {
      above = omega arith;
      within = g.within;
      passes = λ m from to. elim (cases_lt m j) [ inl l ↦ h.passes m from l | inr l ↦ g.passes m l to ];
    }

-- where the next byte does not pass, the run ends
pub run_ends : (class : Class) (text : List ℕ) (at end : ℕ) → IsUtf8 text → IsCharBoundary text at → ArePassed (test_of class) text at end
    → (end < length text → test_of class (slice_index text end) ≡ false) → IsRun (test_of class) text at end
run_ends class text at end u b h stop = run_is (test_of class) text at end (blind-test class) u b h.above h.within h.passes stop

-- a bit that is set is not zero
pub nonzero : (x : ℕ) → (x ≡ 0 → ⊥) → not (nat_eq x 0) ≡ true
nonzero x h = grind (arith, nat_tests)

-- a bit that is not set is zero
pub is_zero : (x : ℕ) → x ≡ 0 → not (nat_eq x 0) ≡ false
is_zero x e = ap (λ y. not (nat_eq y 0)) e
