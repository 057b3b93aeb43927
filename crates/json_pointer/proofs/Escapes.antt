-- Whether each `~` of a text is before `0` or `1`, character by character.
use Rattle.std.proofs.Common.{◌≡◌, ◌==◌, ℕ, ◌+◌, Bool, true, false, ◌&&◌, ◌||◌, not, if◌then◌else◌, List, [], ◌∷◌, ◌++◌, length, Option}
use Rattle.std.{proofs.Common.{Some, None, option_map, refl, sym, ap, ◌∙◌, arith}, specs.Prelude.is_none}
use Rattle.json_pointer.proofs.Prelude.{len_utf8, MatchOption, chars, IsUtf8, nat_tests, chars-nil, chars_past_char, IsUtf8-past_char}
use Rattle.json_pointer.proofs.Prelude.{first}
use lib.Utf8.{encode}
use Rattle.json_pointer.{specs.{Pointers.{stray, first_stray}, Tokens.escaped_by}, proofs.Pointers.escape-stray}

none-map : (f : ℕ → ℕ) (o : Option ℕ) → is_none (option_map f o) ≡ is_none o
none-map f None = refl
none-map f (Some n) = refl

-- a character that is not stray changes nothing
passed : (c : ℕ) (cs : List ℕ) → stray (c ∷ cs) ≡ false → is_none (first_stray (c ∷ cs)) ≡ is_none (first_stray cs)
passed c cs is = ap (λ b. is_none (if b then Some 0 else option_map (λ n. len_utf8 c + n) (first_stray cs))) is
    ∙ none-map (λ n. len_utf8 c + n) (first_stray cs)

no-tilde : (c : ℕ) (cs : List ℕ) → (c == 126) ≡ false → stray (c ∷ cs) ≡ false
no-tilde c cs other = ap (λ b. b && not (first (λ d. (d == 48) || (d == 49)) cs)) other

-- a character other than `~` is read
pub itself-passed : (old new : List ℕ) (c : ℕ) → IsUtf8 old → old ≡ encode c ++ new → (c ≡ 126 → ⊥)
    → (is_none (first_stray (chars old)) ≡ is_none (first_stray (chars new))) × IsUtf8 new
itself-passed old new c utf8 is other =
    let split = chars_past_char old new c utf8 is in
    let no : (c == 126) ≡ false = grind (arith, nat_tests) in
    (ap (λ cs. is_none (first_stray cs)) split ∙ passed c (chars new) (no-tilde c (chars new) no), IsUtf8-past_char old new c utf8 is)

-- an escape is passed
escape-passed : (d : ℕ) (cs : List ℕ) → ((d == 48) || (d == 49)) ≡ true → is_none (first_stray (126 ∷ d ∷ cs)) ≡ is_none (first_stray cs)
escape-passed d cs is =
    let no : (d == 126) ≡ false = grind (arith, nat_tests, is) in
    passed 126 (d ∷ cs) (ap not is) ∙ passed d cs (no-tilde d cs no)

digit-of : (d k : ℕ) → escaped_by (Some d) ≡ Some k → ((d == 48) || (d == 49)) ≡ true
digit-of d k is = by (d == 48) (d == 49) is
  where
    by : (a b : Bool) → (if a then Some 126 else (if b then Some 47 else None)) ≡ Some k → (a || b) ≡ true
    by true b e = refl
    by false true e = refl
    by false false e = cc

-- `~` and the digit after it are read
pub escape-read-on : (old new left : List ℕ) (c k : ℕ) (digit : Option ℕ) (A : Type 0) → IsUtf8 old → old ≡ encode c ++ new → c ≡ 126
    → MatchOption digit A (λ d. new ≡ encode d ++ left) → Some k ≡ escaped_by digit
    → (is_none (first_stray (chars old)) ≡ is_none (first_stray (chars left))) × IsUtf8 left
escape-read-on old new left c k None A utf8 is tilde steps found = cc
escape-read-on old new left c k (Some d) A utf8 is tilde steps found =
    let utf8_new = IsUtf8-past_char old new c utf8 is in
    let split : chars old ≡ 126 ∷ d ∷ chars left = chars_past_char old new c utf8 is ∙ ap (λ x. x ∷ chars new) tilde
    ∙ ap (λ cs. 126 ∷ cs) (chars_past_char new left d utf8_new steps) in (
      ap (λ cs. is_none (first_stray cs)) split ∙ escape-passed d (chars left) (digit-of d k (sym found)),
      IsUtf8-past_char new left d utf8_new steps,
    )

-- a stray `~` is found
pub stray-found : (old new left : List ℕ) (c : ℕ) (digit : Option ℕ) (A : Type 0) → IsUtf8 old → old ≡ encode c ++ new → c ≡ 126
    → MatchOption digit ((length new ≡ 0) × A) (λ d. new ≡ encode d ++ left) → None ≡ escaped_by digit
    → false ≡ is_none (first_stray (chars old))
stray-found old new left c digit A utf8 is tilde steps none =
    let utf8_new = IsUtf8-past_char old new c utf8 is in
    let split : chars old ≡ 126 ∷ chars new = chars_past_char old new c utf8 is ∙ ap (λ x. x ∷ chars new) tilde in
    let here = escape-stray new left digit A utf8_new steps none in
    sym (ap (λ cs. is_none (first_stray cs)) split
    ∙ ap (λ b. is_none (if b then Some 0 else option_map (λ n. len_utf8 126 + n) (first_stray (chars new)))) here)

-- at the end nothing is stray
pub end-passed : (old : List ℕ) → length old ≡ 0 → true ≡ is_none (first_stray (chars old))
end-passed [] empty = sym (ap (λ cs. is_none (first_stray cs)) chars-nil)
end-passed (b ∷ bs) empty = absurd (omega arith)
