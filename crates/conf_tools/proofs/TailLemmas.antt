-- A part that stands in the bytes.
use Rattle.std.proofs.Common.{◌≡◌, ℕ, ◌+◌, ◌-◌, ◌^◌, ◌<◌, ◌≤◌, false, ◌||◌, ◌==◌, List, [], ◌∷◌, ◌++◌, length, take, drop, get_or, ap, refl}
use Rattle.std.{proofs.Common.{sym, ◌∙◌, subst, arith, take-append-drop}, specs.Prelude.{if◌then◌else◌, min}}
use Rattle.conf_tools.{proofs.Prelude.{drop_more, starts_with}, specs.Tails.{blanks_after, has_part, is_blank}}

without-first : (part : List ℕ) (byte : ℕ) (bytes : List ℕ) → starts_with ◌==◌ (byte ∷ bytes) part ≡ false
    → has_part part bytes ≡ has_part part (byte ∷ bytes)
without-first part byte bytes differs = sym (ap (λ b. b || has_part part bytes) differs)

-- where the part does not stand here, it stands one byte further on or nowhere
pub one_byte_on : (part bytes : List ℕ) (at : ℕ) → at < length bytes → starts_with ◌==◌ (drop at bytes) part ≡ false
    → has_part part (drop (at + 1) bytes) ≡ has_part part (drop at bytes)
one_byte_on part bytes at within differs =
    let split : drop at bytes ≡ get_or bytes at 0 ∷ drop (at + 1) bytes = drop_more bytes at 0 within in
    without-first part (get_or bytes at 0) (drop (at + 1) bytes) (subst (λ (xs : List ℕ). starts_with ◌==◌ xs part ≡ false) split differs)
    ∙ ap (has_part part) (sym split)

-- ---- blank bytes at the end

-- each byte from this place on adds one to how many are blank
abbrev pub AreBlankFrom : List ℕ → ℕ → Type 0
AreBlankFrom bytes at = (blanks : ℕ) → blanks ≤ 2 ^ 64 - 1
    → blanks_after blanks (drop at bytes) ≡ min (blanks + (length bytes - at)) (2 ^ 64 - 1)

-- what comes after some bytes adds to what they make
joined : (blanks : ℕ) (before after : List ℕ) → blanks_after blanks (before ++ after) ≡ blanks_after (blanks_after blanks before) after
joined blanks [] after = refl
joined blanks (byte ∷ before) after = joined (if is_blank byte then min (blanks + 1) (2 ^ 64 - 1) else 0) before after

module _ (bytes : List ℕ) (before at : ℕ) (one : before + 1 ≡ at) (within : at ≤ length bytes) (rest : AreBlankFrom bytes at) where
  -- what one byte and those after it make
  with_byte : (blanks : ℕ) → blanks_after blanks (drop before bytes)
      ≡ blanks_after (if is_blank (get_or bytes before 0) then min (blanks + 1) (2 ^ 64 - 1) else 0) (drop at bytes)
  with_byte blanks =
      let inside : before < length bytes = omega arith in
      ap (blanks_after blanks) (drop_more bytes before 0 inside)
      ∙ ap (λ n. blanks_after (if is_blank (get_or bytes before 0) then min (blanks + 1) (2 ^ 64 - 1) else 0) (drop n bytes)) one

  -- one is not, and those after it are
  pub last_not_blank : is_blank (get_or bytes before 0) ≡ false → length bytes ≤ 2 ^ 64 - 1 → (blanks : ℕ)
      → length bytes - at ≡ blanks_after blanks bytes
  last_not_blank solid short blanks =
      let parts : blanks_after blanks (take before bytes ++ drop before bytes) ≡ blanks_after blanks bytes =
      ap (blanks_after blanks) (take-append-drop before bytes) in
      let none : 0 ≤ 2 ^ 64 - 1 = omega arith in
      let few : min (0 + (length bytes - at)) (2 ^ 64 - 1) ≡ length bytes - at = omega (arith, short) in
      sym (sym parts ∙ joined blanks (take before bytes) (drop before bytes) ∙ with_byte (blanks_after blanks (take before bytes))
      ∙ ap (λ b. blanks_after (if b then min (blanks_after blanks (take before bytes) + 1) (2 ^ 64 - 1) else 0) (drop at bytes)) solid
      ∙ rest 0 none ∙ few)
