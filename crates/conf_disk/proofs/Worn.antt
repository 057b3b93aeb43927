-- What is left of pending bytes.
use Rattle.std.proofs.Common.{◌≡◌, inl, inr, ℕ, zero, suc, ◌+◌, ◌≤◌, List, [], ◌∷◌, ◌++◌, length, map, set, take, drop, replicate, refl}
use Rattle.std.proofs.Common.{sym, ◌∙◌, ap, subst, arith, append_assoc, take-append-drop}
use Rattle.conf_disk.specs.Image.{IsWorn, with_zeros}

pub IsWorn-whole : (bytes : List ℕ) → IsWorn bytes bytes
IsWorn-whole [] = tt
IsWorn-whole (byte ∷ bytes) = (inl refl, IsWorn-whole bytes)

-- what is left of bytes may be left of more bytes
pub IsWorn-more : (pending more left : List ℕ) → IsWorn pending left → IsWorn (pending ++ more) left
IsWorn-more [] more [] worn = tt
IsWorn-more [] more (first ∷ left) worn = absurd worn
IsWorn-more (byte ∷ pending) more [] worn = tt
IsWorn-more (byte ∷ pending) more (first ∷ left) worn = (worn.0, IsWorn-more pending more left worn.1)

-- bytes before them may be left whole
pub IsWorn-behind : (before pending left : List ℕ) → IsWorn pending left → IsWorn (before ++ pending) (before ++ left)
IsWorn-behind [] pending left worn = worn
IsWorn-behind (byte ∷ before) pending left worn = (inl refl, IsWorn-behind before pending left worn)

-- so some bytes may be left of those that they are the first of
pub IsWorn-first : (k : ℕ) (before bytes left : List ℕ) → IsWorn (before ++ take k bytes) left → IsWorn (before ++ bytes) left
IsWorn-first k before bytes left worn =
    subst (λ (pending : List ℕ). IsWorn pending left)
    (append_assoc before (take k bytes) (drop k bytes) ∙ ap (λ (l : List ℕ). before ++ l) (take-append-drop k bytes))
    (IsWorn-more (before ++ take k bytes) (drop k bytes) left worn)

-- where nothing is pending, nothing is left of it
pub IsWorn-none : (left : List ℕ) → IsWorn [] left → left ≡ []
IsWorn-none [] worn = refl
IsWorn-none (first ∷ left) worn = absurd worn

-- a prefix, and zeros
pub IsWorn-prefix : (pending : List ℕ) (keep count : ℕ) → keep + count ≤ length pending
    → IsWorn pending (take keep pending ++ replicate count 0)
IsWorn-prefix [] zero zero le = tt
IsWorn-prefix [] zero (suc count) le = absurd (omega (arith, le))
IsWorn-prefix [] (suc keep) count le = absurd (omega (arith, le))
IsWorn-prefix (byte ∷ pending) zero zero le = tt
IsWorn-prefix (byte ∷ pending) zero (suc count) le = (inr refl, IsWorn-prefix pending zero count (omega (arith, le)))
IsWorn-prefix (byte ∷ pending) (suc keep) count le = (inl refl, IsWorn-prefix pending keep count (omega (arith, le)))

-- one more zero
IsWorn-zero : (pending first last : List ℕ) (place : ℕ) → IsWorn pending (first ++ last)
    → IsWorn pending (set first place 0 ++ last)
IsWorn-zero pending [] last place worn = worn
IsWorn-zero [] (byte ∷ first) last place worn = absurd worn
IsWorn-zero (b ∷ pending) (byte ∷ first) last zero worn = (inr refl, worn.1)
IsWorn-zero (b ∷ pending) (byte ∷ first) last (suc place) worn = (worn.0, IsWorn-zero pending first last place worn.1)

-- zeros in some places
pub IsWorn-zeros : (places pending first last : List ℕ) → IsWorn pending (first ++ last)
    → IsWorn pending (with_zeros places first ++ last)
IsWorn-zeros [] pending first last worn = worn
IsWorn-zeros (place ∷ places) pending first last worn =
    IsWorn-zeros places pending (set first place 0) last (IsWorn-zero pending first last place worn)

-- the bytes after the first one
with_zeros-later : (places : List ℕ) (byte : ℕ) (bytes : List ℕ)
    → with_zeros (map suc places) (byte ∷ bytes) ≡ byte ∷ with_zeros places bytes
with_zeros-later [] byte bytes = refl
with_zeros-later (place ∷ places) byte bytes = with_zeros-later places byte (set bytes place 0)

-- What is left is a prefix with zeros in some places.
pub record IsHoled (pending left : List ℕ) : Type 0 where
  pub places : List ℕ
  pub fits : length left ≤ length pending
  pub is : with_zeros places (take (length left) pending) ≡ left

-- one more byte, as it was or zero
IsHoled-kept : (byte first : ℕ) (pending left : List ℕ) → first ≡ byte → IsHoled pending left
    → IsHoled (byte ∷ pending) (first ∷ left)
IsHoled-kept byte first pending left same holed = record {
  places = map suc holed.places;
  fits = omega (arith, holed.fits);
  is = with_zeros-later holed.places byte (take (length left) pending) ∙ (λ i. sym same i ∷ holed.is i);
}

IsHoled-zero : (byte first : ℕ) (pending left : List ℕ) → first ≡ 0 → IsHoled pending left
    → IsHoled (byte ∷ pending) (first ∷ left)
IsHoled-zero byte first pending left none holed = record {
  places = 0 ∷ map suc holed.places;
  fits = omega (arith, holed.fits);
  is = with_zeros-later holed.places 0 (take (length left) pending) ∙ (λ i. sym none i ∷ holed.is i);
}

pub IsWorn-holed : (pending left : List ℕ) → IsWorn pending left → IsHoled pending left
IsWorn-holed pending [] worn = record { places = []; fits = omega arith; is = refl }
IsWorn-holed [] (first ∷ left) worn = absurd worn
IsWorn-holed (byte ∷ pending) (first ∷ left) worn = elim worn.0 [
  | inl same ↦ IsHoled-kept byte first pending left same (IsWorn-holed pending left worn.1)
  | inr none ↦ IsHoled-zero byte first pending left none (IsWorn-holed pending left worn.1)
]
