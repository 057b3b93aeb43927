-- Zeros in places of bytes, one after another.
use Rattle.std.proofs.Common.{◌≡◌, ℕ, zero, suc, ◌≤◌, ◌+◌, List, [], ◌∷◌, ◌++◌, length, get_or, set, Some, true, refl, ◌∙◌, ap, subst}
use Rattle.std.proofs.{Common.arith, lemmas.{List.get_or_past, Bool.leb-true}}
use Rattle.conf_disk.specs.{Folder.{File, empty_file}, Image.{with_zeros, holed_bytes, fits_at, torn_at}}

-- one place more
pub with_zeros-push : (places : List ℕ) (place : ℕ) (bytes : List ℕ)
    → with_zeros (places ++ place ∷ []) bytes ≡ set (with_zeros places bytes) place 0
with_zeros-push [] place bytes = refl
with_zeros-push (first ∷ places) place bytes = with_zeros-push places place (set bytes first 0)

-- no bytes have none
with_zeros-none : (places : List ℕ) → with_zeros places [] ≡ []
with_zeros-none [] = refl
with_zeros-none (place ∷ places) = with_zeros-none places

no_bytes : (keep zeros : ℕ) (places : List ℕ) → keep + zeros ≤ 0 → holed_bytes empty_file keep zeros places ≡ []
no_bytes zero zero places le = ap (λ (l : List ℕ). [] ++ l ++ []) (with_zeros-none places)
no_bytes zero (suc zeros) places le = absurd (omega (arith, le))
no_bytes (suc keep) zeros places le = absurd (omega (arith, le))

-- of a place that none of the files has, a cut that fits leaves nothing
pub torn-past : (files : List File) (id keep zeros : ℕ) (places : List ℕ) → length files ≤ id
    → fits_at files (Some id) keep zeros ≡ true → torn_at files (Some id) keep zeros places ≡ Some []
torn-past files id keep zeros places past fits =
    let none = get_or_past files id empty_file past in
    let le : keep + zeros ≤ 0 = subst (λ (file : File). keep + zeros ≤ length file.pending) none
    (leb-true (keep + zeros) (length (get_or files id empty_file).pending) fits) in
    ap (λ (file : File). Some (holed_bytes file keep zeros places)) none ∙ ap Some (no_bytes keep zeros places le)
