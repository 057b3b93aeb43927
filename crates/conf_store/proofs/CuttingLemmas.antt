-- Bytes that are cut from a part into a slice.
use Rattle.std.proofs.Common.{◌≡◌, ℕ, ◌+◌, List, ◌++◌, take, drop, sym, ap, ◌∙◌, append_assoc, take-append-drop}
use Rattle.conf_store.proofs.Prelude.{drop-drop}

-- what is in the slice, and what is left of the part, are what was there
pub cut-same : (slice new bytes : List ℕ) (cut count : ℕ) → new ≡ slice ++ take count (drop cut bytes)
    → new ++ drop (cut + count) bytes ≡ slice ++ drop cut bytes
cut-same slice new bytes cut count is =
    ap (λ bs. bs ++ drop (cut + count) bytes) is
    ∙ append_assoc slice (take count (drop cut bytes)) (drop (cut + count) bytes)
    ∙ ap (λ bs. slice ++ (take count (drop cut bytes) ++ bs)) (further bytes cut count)
    ∙ ap (λ bs. slice ++ bs) (take-append-drop count (drop cut bytes))
  where
    further : (bs : List ℕ) (i n : ℕ) → drop (i + n) bs ≡ drop n (drop i bs)
    further bs i n = sym (drop-drop n i bs)
