-- Bytes that go out part by part.
use Rattle.std.{proofs.Common.{◌≡◌, sym, ◌∙◌, ap, arith, append_assoc, take-append-drop}, specs.Prelude.{ℕ, ◌+◌, List, ◌++◌, take, drop}}
use Rattle.std.specs.Prelude.{Option, Some, None}
use Rattle.yaml_docs.proofs.Prelude.{Appends, take-take, drop-take}

take-more : (bytes : List ℕ) (done n : ℕ) → take done bytes ++ take n (drop done bytes) ≡ take (done + n) bytes
take-more bytes done n =
    sym (sym (take-append-drop done (take (done + n) bytes))
    ∙ ap (λ l. l ++ drop done (take (done + n) bytes)) (take-take done (done + n) bytes (omega arith))
    ∙ ap (λ l. take done bytes ++ l) (drop-take done n bytes))

-- a prefix that was written, and then a prefix of the rest, are a prefix
pub appends-more : (held mid now : Option (List ℕ)) (bytes : List ℕ) (done n : ℕ) → Appends held mid (take done bytes)
    → Appends mid now (take n (drop done bytes)) → Appends held now (take (done + n) bytes)
appends-more None mid now bytes done n first second = tt
appends-more (Some xs) None now bytes done n first second = absurd first
appends-more (Some xs) (Some ys) None bytes done n first second = absurd second
appends-more (Some xs) (Some ys) (Some zs) bytes done n first second =
    second ∙ ap (λ l. l ++ take n (drop done bytes)) first
    ∙ append_assoc xs (take done bytes) (take n (drop done bytes)) ∙ ap (λ l. xs ++ l) (take-more bytes done n)
