-- Texts of ASCII that are taken: plain ones, and those in double quotes.
use Rattle.std.proofs.Common.{◌≡◌, ℕ, ◌<◌, ◌≤◌, true, false, not, ◌&&◌, ◌||◌, ◌==◌, nat_le, nat_lt, List, [], ◌∷◌, ◌++◌, codes, length}
use Rattle.std.proofs.Common.{get_or, IsAscii, refl, sym, ap, ap₂, subst, ◌∙◌, add-zero, append_assoc, arith}
use Rattle.yaml_styled.proofs.Prelude.{and_from, and_parts, le-leb, leb-true, ltb-true, nat_tests, encodes-IsAscii, IsUtf8-from_ascii}
use Rattle.yaml_styled.proofs.Prelude.{list_all, chars, is_in, line_feed, first, letter, word_char, plain_in_style, lower, is_among}
use Rattle.yaml_styled.proofs.Prelude.{special_words, long_key, key_lines, scalar_lines, every-IsAscii, stands_alone, indented_key_lines}
use Rattle.yaml_styled.proofs.{Prelude.{indented_scalar_lines, short_key}, RunLemmas.run_same, SoundLemmas.text_sound, TakingLemmas.took_as}
use Rattle.{yaml_styled.specs.{Sounds.Sound, Taking.{Took, took_both}}, yaml_writer.specs.ScalarStyles.special_initials}
use Rattle.yaml_writer.proofs.{QuotedLemmas.{quoted_chars-alone, run_IsUtf8, stands_alone-below}, ScalarLemmas.word_char-below}
use Rattle.yaml_writer.proofs.SpecialWords.{none_longer, other_initial, same_length}
use Rattle.yaml_grammar.specs.Trees as tree

-- a text of word characters is its own characters
pub word_same : (word : List ℕ) → list_all word_char word ≡ true → chars word ≡ word
word_same word all = run_same word_char word_char-below word all

-- a text of word characters is plain if it begins with a letter, is short, and is no special word
plain_if : (word : List ℕ) → first letter word ≡ true → list_all word_char word ≡ true → length word ≤ 128
    → is_among (lower word) special_words ≡ false → plain_in_style word ≡ true
plain_if word begins all short ordinary =
    and_from (first letter word && list_all word_char word && nat_le (length word) 128) (not (is_among (lower word) special_words))
    (and_from (first letter word && list_all word_char word) (nat_le (length word) 128)
    (and_from (first letter word) (list_all word_char word) begins all) (le-leb (length word) 128 short))
    (ap not ordinary)

-- as it is longer than the special words
pub plain_long : (word : List ℕ) → list_all word_char word ≡ true → letter (get_or word 0 0) ≡ true → length word ≤ 128
    → 5 < length word → plain_in_style (chars word) ≡ true
plain_long [] all begins short long = cc
plain_long (x ∷ word) all begins short long =
    subst (λ cs. plain_in_style cs ≡ true) (sym (word_same (x ∷ word) all))
    (plain_if (x ∷ word) begins all short
    (none_longer (lower (x ∷ word)) (length (x ∷ word)) (same_length {cs = x ∷ word} refl) long))

-- as it begins otherwise than the special words
pub plain_begins : (word : List ℕ) → list_all word_char word ≡ true → letter (get_or word 0 0) ≡ true → length word ≤ 128
    → is_in (get_or word 0 0) special_initials ≡ false → plain_in_style (chars word) ≡ true
plain_begins [] all begins short other = cc
plain_begins (x ∷ word) all begins short other =
    subst (λ cs. plain_in_style cs ≡ true) (sym (word_same (x ∷ word) all))
    (plain_if (x ∷ word) begins all short (other_initial x word other))

-- ---- plain texts that are taken

-- a piece of ASCII is taken
took_ascii : {text piece rest : List ℕ} (before : ℕ) → IsAscii piece → text ≡ piece ++ rest → Took text before piece 0 rest before
took_ascii {piece = piece} {rest = rest} before ascii same = record {
  goes_on = same ∙ ap (λ bytes. bytes ++ rest) (sym (encodes-IsAscii piece ascii));
  counted = sym (add-zero before);
}

literal_ascii : (piece : List ℕ) → list_all (λ b. nat_lt b 128) piece ≡ true → IsAscii piece
literal_ascii = every-IsAscii (λ b. nat_lt b 128) (λ b below. ltb-true b 128 below)

-- a word and the sign after it
took_word : (text word rest : List ℕ) (before sign : ℕ) → nat_lt sign 128 ≡ true → list_all word_char word ≡ true
    → text ≡ word ++ sign ∷ rest → Took text before (word ++ sign ∷ []) 0 rest before
took_word text word rest before sign ascii all same =
    took_both {text = text} {between = sign ∷ rest} {rest = rest} {xs = word} {ys = sign ∷ []} {before = before} {middle = before}
    {after = before} {m = 0} {n = 0}
    (took_ascii {text = text} {piece = word} {rest = sign ∷ rest} before (every-IsAscii word_char word_char-below word all) same)
    (took_ascii {text = sign ∷ rest} {piece = sign ∷ []} {rest = rest} before
    (literal_ascii (sign ∷ []) (and_from (nat_lt sign 128) true ascii refl)) refl)

plain_words : (value : List ℕ) → plain_in_style value ≡ true → list_all word_char value ≡ true
plain_words value plain =
    let first_parts = and_parts (first letter value && list_all word_char value && nat_le (length value) 128)
    (not (is_among (lower value) special_words)) plain in
    let second_parts = and_parts (first letter value && list_all word_char value) (nat_le (length value) 128) first_parts.0 in
    (and_parts (first letter value) (list_all word_char value) second_parts.0).1

plain_short : (value : List ℕ) → plain_in_style value ≡ true → length value ≤ 128
plain_short value plain =
    let first_parts = and_parts (first letter value && list_all word_char value && nat_le (length value) 128)
    (not (is_among (lower value) special_words)) plain in
    leb-true (length value) 128
    (and_parts (first letter value && list_all word_char value) (nat_le (length value) 128) first_parts.0).1

key_of_plain : (i : ℕ) (key : List ℕ) → plain_in_style key ≡ true → key ++ codes ":" ≡ key_lines i key
key_of_plain i key plain =
    let short : long_key key ≡ false = sym (short_key key (omega (arith, plain_short key plain))) in
    rw (short, plain) refl

no_key_lines : (key : List ℕ) → plain_in_style key ≡ true → 0 ≡ indented_key_lines key
no_key_lines key plain =
    let short : long_key key ≡ false = sym (short_key key (omega (arith, plain_short key plain))) in
    rw short refl

value_of_plain : (i : ℕ) (value : List ℕ) → plain_in_style value ≡ true → value ++ codes "\n" ≡ scalar_lines i value
value_of_plain i value plain = rw plain refl

no_value_lines : (value : List ℕ) → plain_in_style value ≡ true → 0 ≡ indented_scalar_lines value
no_value_lines value plain = rw plain refl

module _ (word : List ℕ) (plain : plain_in_style (chars word) ≡ true) (ascii : chars word ≡ word) where
  all_words : list_all word_char word ≡ true
  all_words = subst (λ cs. list_all word_char cs ≡ true) ascii (plain_words (chars word) plain)

  here : plain_in_style word ≡ true
  here = subst (λ cs. plain_in_style cs ≡ true) ascii plain

  -- a plain key
  pub took_plain_key : (text rest after : List ℕ) (k l i : ℕ) → text ≡ word ++ 58 ∷ rest → after ≡ rest → l ≡ k
      → Took text k (key_lines i (chars word)) (indented_key_lines (chars word)) after l
  took_plain_key text rest after k l i same gone counted =
      subst (λ cs. Took text k (key_lines i cs) (indented_key_lines cs) after l) (sym ascii)
      (subst (λ n. Took text k (key_lines i word) (indented_key_lines word) after n) (sym counted)
      (subst (λ bytes. Took text k (key_lines i word) (indented_key_lines word) bytes k) (sym gone)
      (took_as (key_of_plain i word here) (no_key_lines word here) (took_word text word rest k 58 refl all_words same))))

  -- a plain value
  pub took_plain_value : (text rest after : List ℕ) (k l i : ℕ) → text ≡ word ++ 10 ∷ rest → after ≡ rest → l ≡ k
      → Took text k (scalar_lines i (chars word)) (indented_scalar_lines (chars word)) after l
  took_plain_value text rest after k l i same gone counted =
      subst (λ cs. Took text k (scalar_lines i cs) (indented_scalar_lines cs) after l) (sym ascii)
      (subst (λ n. Took text k (scalar_lines i word) (indented_scalar_lines word) after n) (sym counted)
      (subst (λ bytes. Took text k (scalar_lines i word) (indented_scalar_lines word) bytes k) (sym gone)
      (took_as (value_of_plain i word here) (no_value_lines word here) (took_word text word rest k 10 refl all_words same))))

  pub plain_sound : Sound (tree.text (chars word)) 1
  plain_sound = text_sound word (IsUtf8-from_ascii word (every-IsAscii word_char word_char-below word all_words))

-- ---- texts in double quotes that are taken

feedless : (c : ℕ) → stands_alone c ≡ true → (line_feed == c) ≡ false
feedless c e = grind (arith, nat_tests)

no_feed : (value : List ℕ) → list_all stands_alone value ≡ true → is_in line_feed value ≡ false
no_feed [] all = refl
no_feed (c ∷ value) all =
    let parts = and_parts (stands_alone c) (list_all stands_alone value) all in
    ap₂ (λ a b. a || b) (feedless c parts.0) (no_feed value parts.1)

value_of_quoted : (i : ℕ) (value : List ℕ) → plain_in_style value ≡ false → list_all stands_alone value ≡ true
    → codes "\"" ++ (value ++ codes "\"\n") ≡ scalar_lines i value
value_of_quoted i value quoted all =
    let flat = no_feed value all in
    let same = quoted_chars-alone value all in
    ap (λ cs. codes "\"" ++ cs) (sym (append_assoc value (codes "\"") (codes "\n")))
    ∙ rw (quoted, flat, same) refl

no_quoted_lines : (value : List ℕ) → plain_in_style value ≡ false → list_all stands_alone value ≡ true
    → 0 ≡ indented_scalar_lines value
no_quoted_lines value quoted all = let flat = no_feed value all in rw (quoted, flat) refl

module _ (word : List ℕ) (alone : list_all stands_alone word ≡ true) where
  same_word : chars word ≡ word
  same_word = run_same stands_alone stands_alone-below word alone

  -- a text in double quotes, and its line feed
  took_quoted : (text rest : List ℕ) (k : ℕ) → text ≡ codes "\"" ++ (word ++ (codes "\"" ++ 10 ∷ rest))
      → Took text k (codes "\"" ++ (word ++ codes "\"\n")) 0 rest k
  took_quoted text rest k same =
      let ascii = every-IsAscii stands_alone stands_alone-below word alone in
      let last = codes "\"" ++ 10 ∷ rest in
      let first = took_ascii {text = text} {piece = codes "\""} {rest = word ++ last} k (literal_ascii (codes "\"") refl) same in
      let second = took_ascii {text = word ++ last} {piece = word} {rest = last} k ascii refl in
      let third = took_ascii {text = last} {piece = codes "\"\n"} {rest = rest} k (literal_ascii (codes "\"\n") refl) refl in
      took_both {text = text} {between = word ++ last} {rest = rest} {xs = codes "\""} {ys = word ++ codes "\"\n"} {before = k}
      {middle = k} {after = k} {m = 0} {n = 0} first
      (took_both {text = word ++ last} {between = last} {rest = rest} {xs = word} {ys = codes "\"\n"} {before = k} {middle = k}
      {after = k} {m = 0} {n = 0} second third)

  -- a value in double quotes
  pub took_quoted_value : (text rest after : List ℕ) (k l i : ℕ) → plain_in_style (chars word) ≡ false
      → text ≡ codes "\"" ++ (word ++ (codes "\"" ++ 10 ∷ rest)) → after ≡ rest → l ≡ k
      → Took text k (scalar_lines i (chars word)) (indented_scalar_lines (chars word)) after l
  took_quoted_value text rest after k l i quoted same gone counted =
      let here = subst (λ cs. plain_in_style cs ≡ false) same_word quoted in
      subst (λ cs. Took text k (scalar_lines i cs) (indented_scalar_lines cs) after l) (sym same_word)
      (subst (λ n. Took text k (scalar_lines i word) (indented_scalar_lines word) after n) (sym counted)
      (subst (λ bytes. Took text k (scalar_lines i word) (indented_scalar_lines word) bytes k) (sym gone)
      (took_as (value_of_quoted i word here alone) (no_quoted_lines word here alone) (took_quoted text rest k same))))

  pub quoted_sound : Sound (tree.text (chars word)) 1
  quoted_sound = text_sound word (run_IsUtf8 word alone)
