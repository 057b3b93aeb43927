-- Abouts that are spelled one key a line.
use Rattle.std.{proofs.Common.{◌≡◌, refl, sym, ap, subst, ◌∙◌, arith, ◌<◌, ◌≤◌, append_assoc, append-nil, if◌then◌else◌}, specs.Prelude.ℕ}
use Rattle.std.specs.Prelude.{Bool, true, false, List, [], ◌∷◌, ◌++◌, codes, length}
use Rattle.conf_session.proofs.Prelude.{chars, IsUtf8, and_parts, chars-IsAscii, encodes-chars, encodes-IsAscii, leb-true, le-ltb}
use Rattle.conf_session.proofs.Prelude.{length-append, text, sequence, mapping, Members, no_member, member, Tree, with_last, plain_in_style}
use Rattle.conf_session.proofs.{Prelude.{long_key, IsAbout, pair_count, key_style, Plain, Double}, RowLemmas.{low_ascii, key_low}}
use Rattle.conf_session.{proofs.{RowLemmas.spelled_chars, CommandLineLemmas.field_line}, specs.CommandLines.{Line, spelled, IsSpelled}}
use Rattle.conf_session.specs.CommandLines.{line_text, members_of_lines, IsLine, AreLines, inner_text, IsPairLine, ArePairLines}
use Rattle.conf_session.specs.CommandLines.{IsAboutLines}

-- no pair yet
pub no_pairs : (lines : List ℕ) → ArePairLines lines no_member lines
no_pairs lines = record { own = []; are = tt; is = refl; says = refl }

inner_joined : (ls more : List Line) → inner_text (ls ++ more) ≡ inner_text ls ++ inner_text more
inner_joined [] more = refl
inner_joined (l ∷ ls) more =
    ap (λ t. codes "  " ++ (line_text l ++ t)) (inner_joined ls more)
    ∙ ap (λ t. codes "  " ++ t) (sym (append_assoc (line_text l) (inner_text ls) (inner_text more)))

lines_last : (ls : List Line) (l : Line) → AreLines ls → IsLine l → AreLines (ls ++ l ∷ [])
lines_last [] l are is = (is, tt)
lines_last (m ∷ ms) l are is = (are.0, lines_last ms l are.1 is)

members_last : (ls : List Line) (l : Line) → members_of_lines (ls ++ l ∷ []) ≡ with_last (members_of_lines ls) l.key (text l.value)
members_last [] l = refl
members_last (m ∷ ms) l = ap (member m.key (text m.value)) (members_last ms l)

-- one more pair
pub pair_added : (lines left after key value : List ℕ) (ms : Members) → ArePairLines lines ms left → IsPairLine left key value after
    → ArePairLines lines (with_last ms (chars key) (text (chars value))) after
pair_added lines left after key value ms so one =
    let l : Line = record { key = key; spelling = one.spelling; value = value } in
    let key_is : chars key ≡ key = chars-IsAscii key (low_ascii key (key_low key one.good.word)) in
    let value_is : chars value ≡ value = spelled_chars one.spelling value one.good.stands in
    record {
      own = so.own ++ l ∷ [];
      are = lines_last so.own l so.are one.good;
      is =
          so.is ∙ ap (λ t. inner_text so.own ++ t)
          (one.is ∙ ap (λ t. codes "  " ++ (t ++ after)) (sym (append-nil (line_text l))))
          ∙ sym (append_assoc (inner_text so.own) (inner_text (l ∷ [])) after)
          ∙ ap (λ t. t ++ after) (sym (inner_joined so.own (l ∷ [])));
      says =
          ap (λ m. with_last m (chars key) (text (chars value))) so.says
          ∙ (λ i. with_last (members_of_lines so.own) (key_is i) (text (value_is i)))
          ∙ sym (members_last so.own l);
    }

-- a pair takes some characters
pub pair_taken : (left key value after : List ℕ) → IsPairLine left key value after → length after < length left
pair_taken left key value after one =
    let l : Line = record { key = key; spelling = one.spelling; value = value } in
    let whole = ap length one.is in
    let apart = length-append (line_text l) after in
    omega (arith, whole, apart)

-- how many pairs a mapping has
abbrev count : Tree → ℕ
count (text value) = 0
count (sequence ts) = 0
count (mapping ms) = pair_count ms

-- all pairs, and the closing line
pub about_lines : (lines : List ℕ) (ms : Members) (about : Tree) → ArePairLines lines ms (codes "...\n") → about ≡ mapping ms
    → IsAbout about → IsAboutLines (codes "about:\n" ++ lines) about
about_lines lines ms about so is good = by so.own so.are so.is so.says
  where
    by : (own : List Line) → AreLines own → lines ≡ inner_text own ++ codes "...\n" → ms ≡ members_of_lines own
        → IsAboutLines (codes "about:\n" ++ lines) about
    by [] are spelled says =
        let none : pair_count good.members ≡ 0 = ap count (sym good.is ∙ is ∙ ap mapping says) in
        let some = good.some in
        absurd (omega (arith, none, some))
    by (l ∷ ls) are spelled says = record {
      entry = record { first = l; more = ls };
      are = are;
      is = ap (λ t. codes "about:\n" ++ t) spelled;
      says = is ∙ ap mapping says;
      good = good;
    }

-- a pair on its line
pub pair_line : (lines pair rest key line value : List ℕ) → lines ≡ codes "  " ++ (pair ++ 10 ∷ rest) → pair ≡ key ++ (codes ": " ++ line)
    → plain_in_style key ≡ true → long_key key ≡ false → IsSpelled line value → IsPairLine lines key value rest
pair_line lines pair rest key line value is parts word short so =
    let shown = spelled so.spelling value in
    record {
      spelling = so.spelling;
      good = record { word = word; short = short; stands = so.stands };
      is =
          is ∙ ap (λ t. codes "  " ++ (t ++ 10 ∷ rest)) (parts ∙ ap (λ t. key ++ (codes ": " ++ t)) so.is)
          ∙ ap (λ t. codes "  " ++ t)
          (append_assoc key (codes ": " ++ shown) (10 ∷ rest)
          ∙ field_line key value (key ++ (codes ": " ++ (shown ++ 10 ∷ rest))) rest so.spelling refl);
    }

-- ---- a plain key

by_style : (b : Bool) → (if b then Plain else Double) ≡ Plain → b ≡ true
by_style true e = refl
by_style false e = absurd (let never : Double ≡ Plain = e in cc)

pub key_plain : (key : List ℕ) → IsUtf8 key → key_style (chars key) ≡ Plain → plain_in_style key ≡ true
key_plain key utf8 is =
    let plain = by_style (plain_in_style (chars key)) is in
    let same : chars key ≡ key = sym (encodes-IsAscii (chars key) (low_ascii (chars key) (key_low (chars key) plain)))
    ∙ encodes-chars key utf8 in
    subst (λ k. plain_in_style k ≡ true) same plain

-- it is short
pub key_short : (key : List ℕ) → plain_in_style key ≡ true → long_key key ≡ false
key_short key plain =
    let few : length key ≤ 128 = leb-true (length key) 128 (and_parts _ _ (and_parts _ _ plain).0).1 in
    rw plain (le-ltb 1000 (length key) (omega (arith, few)))
