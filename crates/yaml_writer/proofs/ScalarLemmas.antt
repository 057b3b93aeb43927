-- The tests by which a scalar's style is chosen.
use Rattle.std.proofs.Common.{◌≡◌, ℕ, suc, ◌+◌, ◌<◌, Bool, true, false, ◌==◌, ◌&&◌, ◌||◌, not, nat_le, if◌then◌else◌, List, [], ◌∷◌, ◌++◌}
use Rattle.std.proofs.Common.{length, length-append, get_or, take, map, IsUtf8, encode_utf8_all, refl, sym, ap, ap₂, ◌∙◌, subst, lit<}
use Rattle.std.{proofs.Common.arith, specs.Char.to_ascii_lowercase}
use Rattle.yaml_writer.proofs.Prelude.{take-append_seam, get_or-append_seam, and_from, and_parts, eqb-true, nat_tests, encode_ascii}
use Rattle.yaml_writer.proofs.Prelude.{chars-append, encodes-chars, encodes-append, IsUtf8-take, IsCharBoundary-before_ascii, chars}
use Rattle.yaml_writer.proofs.Prelude.{in_range, is_in, printable, line_feed, no_break_space, line_separator, paragraph_separator}
use Rattle.yaml_writer.proofs.Prelude.{byte_order_mark, list_all, letter, word_char, plain_in_style, special_words, is_among, lower}
use Rattle.yaml_writer.proofs.Prelude.{feeds_at_end, shown_or_feed, first, every-IsAscii, chars-same, every-bytes, every-push}
use Rattle.yaml_writer.specs.Runs.{ascii_in_lines}

-- a character of a word is ASCII
pub word_char-below : (c : ℕ) → word_char c ≡ true → c < 128
word_char-below c e = grind (arith, nat_tests)

third-false : (a b c : Bool) → (a && b && false && c) ≡ false
third-false true true c = refl
third-false true false c = refl
third-false false b c = refl

second-false : (a b c : Bool) → (a && false && b && c) ≡ false
second-false true b c = refl
second-false false b c = refl

-- a text of more than 128 bytes is not plain: its characters are fewer only if one of them is not ASCII
pub long-not-plain : (bs : List ℕ) → IsUtf8 bs → 128 < length bs → plain_in_style (chars bs) ≡ false
long-not-plain bs utf8 long =
    let cs = chars bs in
    let rest = not (is_among (lower cs) special_words) in
    let P : Bool → Type 0 = λ b. list_all word_char cs ≡ b → plain_in_style cs ≡ false in
    (elim (list_all word_char cs) as P [
      | true ↦ λ all.
          let same : cs ≡ bs = chars-same bs utf8 (every-IsAscii word_char word_char-below cs all) in
          let many : nat_le (length cs) 128 ≡ false = ap (λ ds. nat_le (length ds) 128) same ∙ grind (arith, nat_tests, long) in
          ap (λ b. first letter cs && list_all word_char cs && b && rest) many ∙ third-false (first letter cs) (list_all word_char cs) rest
      | false ↦ λ none. ap (λ b. first letter cs && b && nat_le (length cs) 128 && rest) none
          ∙ second-false (first letter cs) (nat_le (length cs) 128) rest
    ]) refl

ascii_in_lines-below : (c : ℕ) → ascii_in_lines c ≡ true → c < 128
ascii_in_lines-below c e = grind (arith, nat_tests)

either_shown : (a b x : Bool) → (a || b) ≡ true → ((a || x) || b) ≡ true
either_shown true b x e = refl
either_shown false true true e = refl
either_shown false true false e = refl
either_shown false false x e = cc

all_shown : (cs : List ℕ) → list_all ascii_in_lines cs ≡ true → list_all shown_or_feed cs ≡ true
all_shown [] e = refl
all_shown (c ∷ cs) e =
    let parts = and_parts (ascii_in_lines c) (list_all ascii_in_lines cs) e in
    let apart = line_separator ∷ paragraph_separator ∷ byte_order_mark ∷ [] in
    let beyond = nat_le no_break_space c && printable c && not (is_in c apart) in
    and_from (shown_or_feed c) (list_all shown_or_feed cs)
    (either_shown (in_range 0x20 0x7e c) (c == line_feed) beyond parts.0) (all_shown cs parts.1)

-- ASCII characters that a literal shows, and line feeds, are shown characters and line feeds
pub shown-lines : (bs : List ℕ) → IsUtf8 bs → list_all ascii_in_lines bs ≡ true → list_all shown_or_feed (chars bs) ≡ true
shown-lines bs utf8 e = all_shown (chars bs) (sym (every-bytes ascii_in_lines ascii_in_lines-below bs utf8) ∙ e)

same_lower : (c : ℕ) → to_ascii_lowercase c ≡ (if in_range 65 90 c then c + 32 else c)
same_lower c = grind (arith, nat_tests)

-- std's lowercase letters are those of the definition
pub map-lower : (cs : List ℕ) → map to_ascii_lowercase cs ≡ lower cs
map-lower [] = refl
map-lower (c ∷ cs) = ap₂ (λ d ds. d ∷ ds) (same_lower c) (map-lower cs)

-- ---- line feeds at the end

abbrev is_feed : ℕ → Bool
is_feed c = c == line_feed

-- one more at the end
pub feeds_at_end-feed : (xs : List ℕ) → feeds_at_end (xs ++ line_feed ∷ []) ≡ suc (feeds_at_end xs)
feeds_at_end-feed [] = refl
feeds_at_end-feed (x ∷ xs) =
    rw (every-push is_feed (x ∷ xs) line_feed refl)
    (if-suc (list_all is_feed (x ∷ xs)) _ _ _ _ (ap suc (omega (arith, length-append xs (line_feed ∷ []))))
    (feeds_at_end-feed xs))
  where
    if-suc : (b : Bool) (m n p q : ℕ) → m ≡ suc p → n ≡ suc q → (if b then m else n) ≡ suc (if b then p else q)
    if-suc true m n p q e f = e
    if-suc false m n p q e f = f

ends_in_feed : (x : ℕ) (xs : List ℕ) → list_all is_feed (x ∷ xs) ≡ true
    → (prefix : List ℕ) × (x ∷ xs ≡ prefix ++ line_feed ∷ [])
ends_in_feed x [] e = ([], ap (λ d. d ∷ []) (eqb-true x line_feed (and_parts (x == line_feed) true e).0))
ends_in_feed x (y ∷ ys) e =
    let after = ends_in_feed y ys (and_parts (x == line_feed) (list_all is_feed (y ∷ ys)) e).1 in
    (x ∷ after.0, ap (λ zs. x ∷ zs) after.1)

-- none where the text doesn't end in one
pub feeds_at_end-none : (xs : List ℕ) → ((prefix : List ℕ) → xs ≡ prefix ++ line_feed ∷ [] → ⊥) → feeds_at_end xs ≡ 0
feeds_at_end-none [] none = refl
feeds_at_end-none (x ∷ xs) none =
    if-zero (list_all is_feed (x ∷ xs)) _ _
    (λ e. let ends = ends_in_feed x xs e in none ends.0 ends.1)
    (feeds_at_end-none xs (λ prefix e. none (x ∷ prefix) (ap (λ zs. x ∷ zs) e)))
  where
    if-zero : (b : Bool) (m n : ℕ) → (b ≡ true → ⊥) → n ≡ 0 → (if b then m else n) ≡ 0
    if-zero true m n never e = absurd (never refl)
    if-zero false m n never e = e

-- the same of a text's bytes
pub no_feed_at_end : (bs : List ℕ) → IsUtf8 bs → ((prefix : List ℕ) → bs ≡ prefix ++ line_feed ∷ [] → ⊥)
    → feeds_at_end (chars bs) ≡ 0
no_feed_at_end bs utf8 none =
    feeds_at_end-none (chars bs)
    (λ prefix e. none (encode_utf8_all prefix) (sym (encodes-chars bs utf8) ∙ ap encode_utf8_all e
    ∙ encodes-append prefix (line_feed ∷ [])
    ∙ ap (λ bytes. encode_utf8_all prefix ++ (bytes ++ [])) (encode_ascii line_feed (lit< tt))))

-- what comes before a last line feed in UTF-8 is UTF-8
pub prefix_IsUtf8 : (bs prefix : List ℕ) → IsUtf8 bs → bs ≡ prefix ++ line_feed ∷ [] → IsUtf8 prefix
prefix_IsUtf8 bs prefix utf8 e =
    let within : length prefix < length bs = omega (arith, ap length e, length-append prefix (line_feed ∷ [])) in
    let feed : get_or bs (length prefix) 0 ≡ line_feed = rw e (get_or-append_seam prefix line_feed [] 0) in
    subst IsUtf8 (ap (take (length prefix)) e ∙ take-append_seam prefix (line_feed ∷ []))
    (IsUtf8-take bs (length prefix) utf8 (IsCharBoundary-before_ascii bs (length prefix) within (omega (arith, feed))))

-- a line feed at the end counts one more
pub feed_at_end : (bs prefix : List ℕ) → IsUtf8 bs → bs ≡ prefix ++ line_feed ∷ []
    → feeds_at_end (chars bs) ≡ suc (feeds_at_end (chars prefix))
unfolding chars
feed_at_end bs prefix utf8 e =
    ap (λ xs. feeds_at_end (chars xs)) e
    ∙ ap feeds_at_end (chars-append prefix (line_feed ∷ []) (prefix_IsUtf8 bs prefix utf8 e))
    ∙ feeds_at_end-feed (chars prefix)
