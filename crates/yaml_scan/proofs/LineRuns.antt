-- Runs of ASCII characters that a line may hold.
use Rattle.std.proofs.Common.{◌≡◌, ℕ, ◌<◌, true, false, List, [], ◌∷◌, ◌++◌, refl, ap, sym, ◌∙◌, arith, length, get_or, append_assoc, inl}
use Rattle.std.{proofs.{Common.inr, lemmas.List.Sums.list_all-from_AllPass}, specs.Prelude.nat_lt}
use Rattle.yaml_scan.proofs.Prelude.{list_all, IsUtf8, IsCharBoundary, and_parts, cases_lt, cond-true, nat_tests, nb, rest, between, IsRun}
use Rattle.yaml_scan.proofs.Prelude.{between-append, rest-ascii, rest-between, rest-end, first, drop_while, take_while}
use Rattle.yaml_scan.{proofs.ByteRuns.{AreTakenSoFar, take_while_all_at}, specs.{Classes.line_ascii, ScanPlaces.AreTaken}}

stopped_low : (c : ℕ) → c < 128 → line_ascii c ≡ false → nb c ≡ false
stopped_low c l h = let e : nat_lt c 128 ≡ true = grind (arith, nat_tests) in rw e at h

-- an ASCII byte that is no character of a line
pub no_nb_by_byte : (bs : List ℕ) (i : ℕ) → IsUtf8 bs → i < length bs → get_or bs i 0 < 128
    → line_ascii (get_or bs i 0) ≡ false → first nb (rest bs i) ≡ false
no_nb_by_byte bs i u l low h = ap (first nb) (rest-ascii bs i u l low) ∙ stopped_low (get_or bs i 0) low h

-- a run before it is taken
run_taken : (xs ys : List ℕ) → list_all line_ascii xs ≡ true
    → (take_while nb (xs ++ ys) ≡ xs ++ take_while nb ys) × (drop_while nb (xs ++ ys) ≡ drop_while nb ys)
run_taken [] ys h = (refl, refl)
run_taken (x ∷ xs) ys h =
    let p : (line_ascii x ≡ true) × (list_all line_ascii xs ≡ true) = and_parts (line_ascii x) (list_all line_ascii xs) h in
    let n : nb x ≡ true = (and_parts (nat_lt x 128) (nb x) p.0).1 in
    let more = run_taken xs ys p.1 in (
      cond-true (nb x) (x ∷ take_while nb (xs ++ ys)) [] n ∙ ap (λ t. x ∷ t) more.0,
      cond-true (nb x) (drop_while nb (xs ++ ys)) (x ∷ (xs ++ ys)) n ∙ more.1,
    )

-- a run of ASCII characters is taken at once
pub take_while_run : (bs : List ℕ) (i j k : ℕ) → IsUtf8 bs → IsCharBoundary bs i → AreTakenSoFar bs i j
    → IsRun line_ascii bs j k → AreTakenSoFar bs i k
take_while_run bs i j k u b h run =
    let above = h.above in
    let further = run.above in
    let split : rest bs j ≡ between bs j k ++ rest bs k = rest-between bs j k u run.above h.boundary run.boundary in
    let step = run_taken (between bs j k) (rest bs k) (list_all-from_AllPass line_ascii (between bs j k) run.passes) in
    let joined : between bs i k ≡ between bs i j ++ between bs j k =
    between-append bs i j k u h.above run.above b h.boundary run.boundary in
    record {
      above = omega arith;
      boundary = run.boundary;
      takes = h.takes ∙ ap (λ x. between bs i j ++ x) (ap (take_while nb) split ∙ step.0)
          ∙ sym (append_assoc (between bs i j) (between bs j k) (take_while nb (rest bs k)))
          ∙ ap (λ x. x ++ take_while nb (rest bs k)) (sym joined);
      leaves = h.leaves ∙ ap (drop_while nb) split ∙ step.1;
    }

-- a run that has ended, and before it what was taken
pub record AreTakenToStop (bs : List ℕ) (i j : ℕ) : Type 0 where
  pub taken_so_far : AreTakenSoFar bs i j
  pub stop : j < length bs → line_ascii (get_or bs j 0) ≡ false

-- the same up to the first other byte
pub take_while_to_stop : (bs : List ℕ) (i j k : ℕ) → IsUtf8 bs → IsCharBoundary bs i → AreTakenSoFar bs i j
    → IsRun line_ascii bs j k → AreTakenToStop bs i k
take_while_to_stop bs i j k u b h run = record { taken_so_far = take_while_run bs i j k u b h run; stop = run.stop }

-- no character of a line is there, if it is none from U+0080 on
pub take_while_ends : (bs : List ℕ) (i j : ℕ) → IsUtf8 bs → AreTakenToStop bs i j
    → (j < length bs → get_or bs j 0 < 128) → AreTaken nb bs i j
take_while_ends bs i j u h low = take_while_all_at bs i j h.taken_so_far (elim (cases_lt j (length bs)) [
  | inl l ↦ ap (first nb) (rest-ascii bs j u l (low l)) ∙ stopped_low (get_or bs j 0) (low l) (h.stop l)
  | inr past ↦ ap (first nb) (rest-end bs j past)
])
