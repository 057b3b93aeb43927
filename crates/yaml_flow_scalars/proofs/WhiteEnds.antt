-- Where the white at the end of a piece of a text starts.
use Rattle.std.proofs.Common.{◌≡◌, ℕ, ◌-◌, ◌<◌, ◌≤◌, Bool, true, false, List, [], ◌∷◌, ◌++◌, refl, ap, ◌∙◌, subst, arith, inl, inr, get_or}
use Rattle.std.proofs.Common.{slice_index}
use Rattle.yaml_flow_scalars.proofs.Prelude.{IsUtf8, IsCharBoundary, cases_lt, nat_tests, IsCharBoundary-before_ascii, white, between}
use Rattle.yaml_flow_scalars.proofs.Prelude.{between-nil, blind-white, test-between, last_char, test-last_char, ends}
use Rattle.yaml_flow_scalars.specs.Folds.{IsWhiteStart}

ends-last : (p : ℕ → Bool) (prefix : List ℕ) (c : ℕ) → ends p (prefix ++ c ∷ []) ≡ p c
ends-last p [] c = refl
ends-last p (x ∷ []) c = refl
ends-last p (x ∷ y ∷ ys) c = ends-last p (y ∷ ys) c

white_boundary : (bs : List ℕ) (start end : ℕ) → IsUtf8 bs → IsCharBoundary bs end → start ≤ end
    → ((k : ℕ) → start ≤ k → k < end → white (slice_index bs k) ≡ true) → IsCharBoundary bs start
white_boundary bs start end u d l h = elim (cases_lt start end) [
  | inl below ↦ (let w = h start (omega arith) below in
      let inside = d.0 in
      IsCharBoundary-before_ascii bs start (omega arith) (white_low (get_or bs start 0) w))
  | inr same ↦ (let e : end ≡ start = omega arith in subst (λ x. IsCharBoundary bs x) e d)
]
  where
    white_low : (c : ℕ) → white c ≡ true → c < 128
    white_low c h = grind (arith, nat_tests)

-- a byte above the space is no whitespace
pub above_space : (c : ℕ) → 32 < c → white c ≡ false
above_space c h = grind (arith, nat_tests)

-- the whitespace at the end of a piece starts there
pub white_start_is : (bs : List ℕ) (from start end : ℕ) → IsUtf8 bs → IsCharBoundary bs from → IsCharBoundary bs end
    → from ≤ start → start ≤ end
    → ((k : ℕ) → start ≤ k → k < end → white (slice_index bs k) ≡ true)
    → (from < start → white (slice_index bs (start - 1)) ≡ false) → IsWhiteStart bs from start end
white_start_is bs from start end u b d above below h stop =
    let here : IsCharBoundary bs start = white_boundary bs start end u d below h in
    record {
      above = above;
      below = below;
      boundary = here;
      blank = test-between white bs start end blind-white u below here d h;
      black = elim (cases_lt from start) [
        | inl more ↦ (let last = last_char bs from start u more b here in
            ap (ends white) last.2.splits ∙ (ends-last white last.0 last.1
            ∙ (test-last_char white bs from start last.0 last.1 blind-white u last.2 ∙ stop more)))
        | inr same ↦ (let e : from ≡ start = omega arith in
            ap (λ x. ends white (between bs x start)) e ∙ ap (ends white) (between-nil bs start))
      ];
    }
