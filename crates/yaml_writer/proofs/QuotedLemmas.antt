-- What is between double quotes.
use Rattle.std.proofs.Common.{◌≡◌, ℕ, ◌+◌, ◌-◌, subst, ◌/◌, ◌%◌, ◌<◌, ◌≤◌, true, List, [], ◌∷◌, ◌++◌, codes, length, take, drop, IsUtf8}
use Rattle.std.proofs.Common.{encode_utf8, refl, sym, ap, ap₂, ◌∙◌, append_assoc, arith}
use Rattle.yaml_writer.proofs.Prelude.{take-add, list_all-append, take-append-drop, IsUtf8-from_ascii, IsCharBoundary-from_take}
use Rattle.yaml_writer.proofs.Prelude.{chars-IsAscii, chars-append, chars_past_char, chars, IsCharBoundary, le-leb, lt-leb, and_from}
use Rattle.yaml_writer.proofs.Prelude.{and_parts, nat_tests, list_all, hex, quoted_char, quoted_chars, every-IsAscii}
use Rattle.yaml_writer.specs.Runs.{stands_alone, number_escape}

-- a character up to 255 is escaped by two hexadecimal digits
pub number_escape-two : (c : ℕ) → c ≤ 255 → number_escape c ≡ codes "\\x" ++ hex (c / 16) ∷ hex (c % 16) ∷ []
number_escape-two c h = rw (le-leb c 255 h) refl

-- a character from 256 to 65,535 is escaped by four hexadecimal digits
pub number_escape-four : (c : ℕ) → 255 < c
    → number_escape c ≡ codes "\\u" ++ hex (c / 256 / 16) ∷ hex (c / 256 % 16) ∷ hex (c % 256 / 16) ∷ hex (c % 256 % 16) ∷ []
number_escape-four c h =
    let first : c / 4096 ≡ c / 256 / 16 = omega arith in
    let third : c / 16 % 16 ≡ c % 256 / 16 = omega arith in
    let fourth : c % 16 ≡ c % 256 % 16 = omega arith in
    rw (lt-leb c 255 h) (rw (first, third, fourth) refl)

-- characters written one by one, where those that mean themselves are written as they are
pub record Spells (one : ℕ → List ℕ) (all : List ℕ → List ℕ) : Type 0 where
  pub none : all [] ≡ []
  pub more : (c : ℕ) (cs : List ℕ) → all (c ∷ cs) ≡ one c ++ all cs
  pub alone : (c : ℕ) → stands_alone c ≡ true → one c ≡ c ∷ []

-- one text, and then another
spelled-append : {one : ℕ → List ℕ} {all : List ℕ → List ℕ} → Spells one all → (xs ys : List ℕ) → all (xs ++ ys) ≡ all xs ++ all ys
spelled-append {one} {all} spells [] ys = ap (λ cs. cs ++ all ys) (sym spells.none)
spelled-append {one} {all} spells (x ∷ xs) ys =
    spells.more x (xs ++ ys) ∙ ap (λ cs. one x ++ cs) (spelled-append spells xs ys) ∙ sym (append_assoc (one x) (all xs) (all ys))
    ∙ ap (λ cs. cs ++ all ys) (sym (spells.more x xs))

-- characters that mean themselves are written as they are
spelled-alone : {one : ℕ → List ℕ} {all : List ℕ → List ℕ} → Spells one all → (cs : List ℕ) → list_all stands_alone cs ≡ true → all cs ≡ cs
spelled-alone spells [] e = spells.none
spelled-alone spells (c ∷ cs) e =
    let parts = and_parts (stands_alone c) (list_all stands_alone cs) e in
    spells.more c cs ∙ ap₂ (λ prefix rest. prefix ++ rest) (spells.alone c parts.0) (spelled-alone spells cs parts.1)

-- a character that means itself is ASCII
pub stands_alone-below : (c : ℕ) → stands_alone c ≡ true → c < 128
stands_alone-below c e = grind (arith, nat_tests)

quoted_char-alone : (c : ℕ) → stands_alone c ≡ true → quoted_char c ≡ c ∷ []
quoted_char-alone c e = grind (arith, nat_tests)

-- what is between double quotes
pub quoted_spells : Spells quoted_char quoted_chars
quoted_spells = record { none = refl; more = λ c cs. refl; alone = quoted_char-alone }

pub quoted_chars-alone : (cs : List ℕ) → list_all stands_alone cs ≡ true → quoted_chars cs ≡ cs
quoted_chars-alone = spelled-alone quoted_spells

-- a run at the start of a text means itself, and the text may be cut after it
pub run_IsUtf8 : (bs : List ℕ) → list_all stands_alone bs ≡ true → IsUtf8 bs
run_IsUtf8 bs alone = IsUtf8-from_ascii bs (every-IsAscii stands_alone stands_alone-below bs alone)

-- a run of such characters at the start of bytes is written as it is
pub spelled_run : {one : ℕ → List ℕ} {all : List ℕ → List ℕ} → Spells one all → (bs : List ℕ) (n : ℕ)
    → list_all stands_alone (take n bs) ≡ true
    → chars (take n bs) ++ all (chars (drop n bs)) ≡ all (chars bs)
spelled_run {one} {all} spells bs n alone =
    let same = chars-IsAscii (take n bs) (every-IsAscii stands_alone stands_alone-below (take n bs) alone) in
    ap (λ cs. cs ++ all (chars (drop n bs))) (same ∙ sym (spelled-alone spells (take n bs) alone) ∙ ap all (sym same))
    ∙ sym (spelled-append spells (chars (take n bs)) (chars (drop n bs)))
    ∙ ap all (sym (chars-append (take n bs) (drop n bs) (run_IsUtf8 (take n bs) alone)))
    ∙ ap (λ cs. all (chars cs)) (take-append-drop n bs)

-- one character is written, and then the rest
pub spelled_one : {one : ℕ → List ℕ} {all : List ℕ → List ℕ} → Spells one all → (bs rest : List ℕ) (c : ℕ) → IsUtf8 bs
    → bs ≡ encode_utf8 c ++ rest
    → one c ++ all (chars rest) ≡ all (chars bs)
spelled_one {one} {all} spells bs rest c utf8 e = sym (spells.more c (chars rest)) ∙ sym (ap all (chars_past_char bs rest c utf8 e))

-- the bytes may be cut after such a run
pub run_boundary : (bs : List ℕ) (n : ℕ) → IsUtf8 bs → n ≤ length bs → list_all stands_alone (take n bs) ≡ true → IsCharBoundary bs n
run_boundary bs n utf8 within alone = IsCharBoundary-from_take bs n utf8 within (run_IsUtf8 (take n bs) alone)

-- a run and sixteen bytes more
pub alone_more : (bs : List ℕ) (n : ℕ) → list_all stands_alone (take n bs) ≡ true
    → list_all stands_alone (take (n + 16 - n) (drop n bs)) ≡ true
    → list_all stands_alone (take (n + 16) bs) ≡ true
alone_more bs n first more =
    let sixteen : n + 16 - n ≡ 16 = omega arith in
    ap (list_all stands_alone) (take-add n 16 bs) ∙ list_all-append stands_alone (take n bs) (take 16 (drop n bs))
    ∙ and_from (list_all stands_alone (take n bs)) _ first (subst (λ k. list_all stands_alone (take k (drop n bs)) ≡ true) sixteen more)
