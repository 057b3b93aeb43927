-- Tests of a text's characters, and texts that are ASCII.
use Rattle.std.proofs.Common.{◌≡◌, ℕ, zero, suc, ◌<◌, nat_lt, Bool, true, false, ◌&&◌, ◌||◌, ◌==◌, List, [], ◌∷◌, ◌++◌, length, drop}
use Rattle.std.proofs.Common.{encode_utf8, encode_utf8_all, IsUtf8, IsAscii, zero-add, subst, refl, sym, ap, ap₂, ◌∙◌, arith}
use Rattle.std.{proofs.lemmas.Bool.{and_parts, and_from, eqb-true, eq-eqb, ltb-true}, specs.{Char.len_utf8, Bool.Decides}}
use Rattle.yaml_data.proofs.Prelude.{nat_tests, chars-IsAscii, chars-nil, encodes-chars, encodes-IsAscii, IsCharBoundary-past_char}
use Rattle.{yaml_data.proofs.Prelude.{drop_past_char, list_all, list_any, chars, IsCharBoundary}, yaml_chars.specs.Classes.is_in}
use Rattle.yaml_grammar.specs.Texts.{same_text}

-- one character more at the end, which passes
pub every-push : (p : ℕ → Bool) (xs : List ℕ) (d : ℕ) → p d ≡ true → list_all p (xs ++ d ∷ []) ≡ list_all p xs
every-push p [] d e = rw e refl
every-push p (x ∷ xs) d e = ap (λ b. p x && b) (every-push p xs d e)

same_either_way : (a b : ℕ) → (a == b) ≡ (b == a)
same_either_way a b = grind (arith, nat_tests)

-- a search for a character finds it exactly if it is in the list
pub list_any-is_in : (c : ℕ) (xs : List ℕ) → list_any (λ d. d == c) xs ≡ is_in c xs
list_any-is_in c [] = refl
list_any-is_in c (x ∷ xs) = ap₂ (λ a b. a || b) (same_either_way x c) (list_any-is_in c xs)

-- `same_text` is equality
pub same_text-true : (xs ys : List ℕ) → same_text xs ys ≡ true → xs ≡ ys
same_text-true [] [] e = refl
same_text-true [] (y ∷ ys) e = cc
same_text-true (x ∷ xs) [] e = cc
same_text-true (x ∷ xs) (y ∷ ys) e =
    let parts = and_parts (x == y) (same_text xs ys) e in
    ap₂ (λ z zs. z ∷ zs) (eqb-true x y parts.0) (same_text-true xs ys parts.1)

-- a text is the same as itself
pub same_text-self : (xs : List ℕ) → same_text xs xs ≡ true
same_text-self [] = refl
same_text-self (x ∷ xs) = and_from (x == x) (same_text xs xs) (eq-eqb x x refl) (same_text-self xs)

-- `same_text` decides whether two texts are equal
pub same_text-Decides : (xs ys : List ℕ) → Decides (same_text xs ys) (xs ≡ ys)
same_text-Decides xs ys = (same_text-true xs ys, λ e. rw e (same_text-self ys))

-- a text all of whose characters pass a test that ASCII alone passes
pub every-IsAscii : (p : ℕ → Bool) → ((c : ℕ) → p c ≡ true → c < 128) → (cs : List ℕ) → list_all p cs ≡ true → IsAscii cs
every-IsAscii p below [] e i = omega arith
every-IsAscii p below (c ∷ cs) e zero = below c (and_parts (p c) (list_all p cs) e).0
every-IsAscii p below (c ∷ cs) e (suc i) = every-IsAscii p below cs (and_parts (p c) (list_all p cs) e).1 i

-- a literal of ASCII is its own characters, which `refl` shows
pub chars-literal : (bs : List ℕ) → list_all (λ b. nat_lt b 128) bs ≡ true → chars bs ≡ bs
chars-literal bs e = chars-IsAscii bs (every-IsAscii (λ b. nat_lt b 128) (λ b below. ltb-true b 128 below) bs e)

-- bytes whose characters are all ASCII are their own characters
pub chars-same : (bs : List ℕ) → IsUtf8 bs → IsAscii (chars bs) → chars bs ≡ bs
chars-same bs utf8 ascii = sym (encodes-IsAscii (chars bs) ascii) ∙ encodes-chars bs utf8

-- a test that ASCII alone passes says the same of the bytes and of the characters
pub every-bytes : (p : ℕ → Bool) → ((c : ℕ) → p c ≡ true → c < 128) → (bs : List ℕ) → IsUtf8 bs → list_all p bs ≡ list_all p (chars bs)
every-bytes p below bs utf8 =
    same_truth (list_all p bs) (list_all p (chars bs))
    (λ e. ap (list_all p) (chars-IsAscii bs (every-IsAscii p below bs e)) ∙ e)
    (λ e. ap (list_all p) (sym (chars-same bs utf8 (every-IsAscii p below (chars bs) e))) ∙ e)
  where
    same_truth : (a b : Bool) → (a ≡ true → b ≡ true) → (b ≡ true → a ≡ true) → a ≡ b
    same_truth true b f g = sym (f refl)
    same_truth false true f g = g refl
    same_truth false false f g = refl

-- a text after its first character
pub boundary_past_char : (bs rest : List ℕ) (c : ℕ) → IsUtf8 bs → bs ≡ encode_utf8 c ++ rest → IsCharBoundary bs (len_utf8 c)
boundary_past_char bs rest c utf8 e =
    let at : ℕ → Type 0 = λ n. IsCharBoundary bs n in
    subst at (zero-add (len_utf8 c)) (IsCharBoundary-past_char bs rest 0 c (omega arith) utf8 e)

-- what comes after the first character, by its length in bytes
pub drop_char : (bs rest : List ℕ) (c : ℕ) → bs ≡ encode_utf8 c ++ rest → drop (len_utf8 c) bs ≡ rest
drop_char bs rest c e = ap (λ n. drop n bs) (sym (zero-add (len_utf8 c))) ∙ drop_past_char bs rest 0 c e

-- no bytes are no characters
pub chars_empty : (bs : List ℕ) → length bs ≡ 0 → chars bs ≡ []
chars_empty [] e = chars-nil
chars_empty (b ∷ bs) e = absurd (omega arith)

no_length : (xs : List ℕ) → length xs ≡ 0 → xs ≡ []
no_length [] e = refl
no_length (x ∷ xs) e = absurd (omega arith)

-- UTF-8 that has bytes has characters
pub chars_filled : (bs : List ℕ) → IsUtf8 bs → (length bs ≡ 0 → ⊥) → length (chars bs) ≡ 0 → ⊥
chars_filled bs utf8 filled e =
    filled (ap length (sym (encodes-chars bs utf8) ∙ ap encode_utf8_all (no_length (chars bs) e)))
