-- Runs of bytes, and what stands in them.
use Rattle.std.proofs.Common.{◌≡◌, ℕ, zero, suc, ◌+◌, ◌<◌, ◌≤◌, Bool, true, inl, inr, List, [], ◌∷◌, length, get_or, take, refl, ap₂, arith}
use Rattle.yaml_styled.proofs.Prelude.{and_from, cases_lt, eqb-true, list_all, chars, chars-IsAscii, every-IsAscii, space_char, space}
use Rattle.yaml_styled.{proofs.Prelude.spaces, specs.Blocks.{IsBlockRun, IsRun}}

-- a run goes on by what passes in a block
pub run_joined : (test : ℕ → Bool) (bytes : List ℕ) (len count : ℕ) → IsRun test bytes len → IsBlockRun test bytes len count
    → IsRun test bytes (len + count)
run_joined test bytes len count before block = record {
  within = block.within;
  passes = λ k below. elim (cases_lt k len) [ inl less ↦ before.passes k less | inr from ↦ block.passes k from below ];
}

-- what passes byte by byte
pub all_passed : (test : ℕ → Bool) (bytes : List ℕ) (n : ℕ) → n ≤ length bytes
    → ((k : ℕ) → k < n → test (get_or bytes k 0) ≡ true) → list_all test (take n bytes) ≡ true
all_passed test [] zero within passes = refl
all_passed test [] (suc n) within passes = absurd (omega (arith, within))
all_passed test (b ∷ bytes) zero within passes = refl
all_passed test (b ∷ bytes) (suc n) within passes =
    and_from (test b) (list_all test (take n bytes)) (passes 0 (omega arith))
    (all_passed test bytes n (omega (arith, within)) (λ k below. passes (suc k) (omega (arith, below))))

-- the bytes of a run
pub run_passes : (test : ℕ → Bool) (bytes : List ℕ) (n : ℕ) → IsRun test bytes n → list_all test (take n bytes) ≡ true
run_passes test bytes n run = all_passed test bytes n run.within run.passes

-- a run of what only ASCII passes is its own characters
pub run_same : (test : ℕ → Bool) → ((c : ℕ) → test c ≡ true → c < 128) → (bytes : List ℕ) → list_all test bytes ≡ true
    → chars bytes ≡ bytes
run_same test below bytes all = chars-IsAscii bytes (every-IsAscii test below bytes all)

-- a run of spaces
pub run_spaces : (bytes : List ℕ) (n : ℕ) → n ≤ length bytes → ((k : ℕ) → k < n → space (get_or bytes k 0) ≡ true)
    → take n bytes ≡ spaces n
run_spaces [] zero within passes = refl
run_spaces [] (suc n) within passes = absurd (omega (arith, within))
run_spaces (b ∷ bytes) zero within passes = refl
run_spaces (b ∷ bytes) (suc n) within passes =
    let one : b ≡ space_char = eqb-true b space_char (passes 0 (omega arith)) in
    ap₂ (λ first rest. first ∷ rest) one
    (run_spaces bytes n (omega (arith, within)) (λ k below. passes (suc k) (omega (arith, below))))
