-- Texts without whitespace at their ends.
use Rattle.std.proofs.Common.{◌≡◌, ◌<◌, refl, sym, ◌∙◌, ap, subst, arith, append_assoc, get_or, length, take, drop, ⊎_elim}
use Rattle.std.proofs.{Math.Utf8.encode, lemmas.Bool.{and_parts, and_from, cases_lt, false≢true, Decides.nat_tests}}
use Rattle.std.proofs.lemmas.{List.{take-append-drop, get_or-take, get_or-drop, length-take-le, length-drop}, Str.chars-append}
use Rattle.std.proofs.lemmas.Str.{encodes-chars, encode_ascii, IsUtf8-take, IsUtf8-drop, IsCharBoundary-before_ascii, IsCharBoundary-end}
use Rattle.std.specs.Prelude.{ℕ, ◌+◌, ◌-◌, Bool, true, false, List, [], ◌∷◌, ◌++◌, encode_utf8_all, slice_index, slice_range, if◌then◌else◌}
use Rattle.std.specs.{List.list_all, Str.{IsUtf8, IsCharBoundary, chars}}
use Rattle.{yaml_chars.{proofs.Runs.{blind-white, test-chars}, specs.Classes.{white, nb}}, comments_kept.specs.Blanks.AreWhite}
use Rattle.comments_kept.specs.Blanks.{IsWhiteRun, before_trimmed, trimmed}

-- ---- characters

-- the last character is white
abbrev ends_white : List ℕ → Bool
ends_white [] = false
ends_white (c ∷ []) = white c
ends_white (c ∷ d ∷ ds) = ends_white (d ∷ ds)

-- a white one alone is left out
white_alone : (w : Bool) (c : ℕ) → w ≡ true → (if w then [] else c ∷ []) ≡ []
white_alone true c e = refl
white_alone false c e = absurd (false≢true e)

-- another one stays
black_alone : (w : Bool) (c : ℕ) → w ≡ false → (if w then [] else c ∷ []) ≡ c ∷ []
black_alone true c e = absurd (false≢true (sym e))
black_alone false c e = refl

-- white characters alone leave nothing
trimmed_white : (cs : List ℕ) → list_all white cs ≡ true → trimmed cs ≡ []
trimmed_white [] e = refl
trimmed_white (c ∷ cs) e =
    let p = and_parts (white c) (list_all white cs) e in
    ap (before_trimmed c) (trimmed_white cs p.1) ∙ white_alone (white c) c p.0

-- those behind a character that is not white are left out
trimmed_is : (cs ws : List ℕ) → ends_white cs ≡ false → list_all white ws ≡ true → trimmed (cs ++ ws) ≡ cs
trimmed_is [] ws e f = trimmed_white ws f
trimmed_is (c ∷ []) ws e f = ap (before_trimmed c) (trimmed_white ws f) ∙ black_alone (white c) c e
trimmed_is (c ∷ d ∷ ds) ws e f = ap (before_trimmed c) (trimmed_is (d ∷ ds) ws e f)

-- what may be in a comment still may
before_lines : (w : Bool) (c : ℕ) → nb c ≡ true → list_all nb (if w then [] else c ∷ []) ≡ true
before_lines true c e = refl
before_lines false c e = and_from _ _ e refl

trimmed_one : (c : ℕ) (ts : List ℕ) → nb c ≡ true → list_all nb ts ≡ true → list_all nb (before_trimmed c ts) ≡ true
trimmed_one c [] e f = before_lines (white c) c e
trimmed_one c (d ∷ ds) e f = and_from _ _ e f

pub trimmed_lines : (cs : List ℕ) → list_all nb cs ≡ true → list_all nb (trimmed cs) ≡ true
trimmed_lines [] e = refl
trimmed_lines (c ∷ cs) e =
    let p = and_parts (nb c) (list_all nb cs) e in
    trimmed_one c (trimmed cs) p.0 (trimmed_lines cs p.1)

-- ---- bytes

-- the bytes from the first one on
pub before_is : (bs : List ℕ) (at : ℕ) → slice_range bs 0 at ≡ take at bs
before_is bs at = ap (λ n. take n bs) (let none : at - 0 ≡ at = omega arith in none)

-- the last byte, which is white
record LastWhite (bs : List ℕ) : Type 0 where
  front : List ℕ
  last : ℕ
  is : bs ≡ front ++ last ∷ []
  white_last : white last ≡ true

white_small : (c : ℕ) → white c ≡ true → c < 128
white_small c e = grind (arith, nat_tests)

last_white : (cs : List ℕ) → ends_white cs ≡ true → LastWhite (encode_utf8_all cs)
last_white [] e = absurd (false≢true e)
last_white (c ∷ []) e = record {
  front = [];
  last = c;
  is = ap (λ bs. bs ++ []) (encode_ascii c (white_small c e));
  white_last = e;
}
last_white (c ∷ d ∷ ds) e =
    let later : LastWhite (encode_utf8_all (d ∷ ds)) = last_white (d ∷ ds) e in
    record {
      front = encode c ++ later.front;
      last = later.last;
      is = ap (λ bs. encode c ++ bs) later.is ∙ sym (append_assoc (encode c) later.front (later.last ∷ []));
      white_last = later.white_last;
    }

last_at : (front : List ℕ) (c : ℕ) → get_or (front ++ c ∷ []) (length front) 0 ≡ c
last_at [] c = refl
last_at (x ∷ xs) c = last_at xs c

last_length : (front : List ℕ) (c : ℕ) → length (front ++ c ∷ []) ≡ length front + 1
last_length [] c = refl
last_length (x ∷ xs) c = omega (arith, last_length xs c)

-- one more white byte before others
pub run_more : (bytes : List ℕ) (start at : ℕ) → 0 < start → white (slice_index bytes (start - 1)) ≡ true → AreWhite bytes start at
    → AreWhite bytes (start - 1) at
run_more bytes start at some here all = λ k low high. ⊎_elim
    (λ later. all k (omega arith) high)
    (λ not_later. subst (λ n. white (slice_index bytes n) ≡ true) (let same : start - 1 ≡ k = omega arith in same) here)
    (cases_lt (start - 1) k)

module _ (bs : List ℕ) (s : ℕ) (utf8 : IsUtf8 bs) (run : IsWhiteRun bs s (length bs)) where
  -- a text may be cut where its whitespace begins
  pub cut_before_white : IsCharBoundary bs s
  cut_before_white = ⊎_elim
      (λ less. IsCharBoundary-before_ascii bs s less (white_small _ (run.run s (omega arith) less)))
      (λ all. subst (IsCharBoundary bs) (let same : length bs ≡ s = omega (arith, all, run.ordered) in same) (IsCharBoundary-end bs))
      (cases_lt s (length bs))

  -- what is before it does not end in it
  ends_black : ends_white (chars (take s bs)) ≡ false
  ends_black = decide (ends_white (chars (take s bs))) refl
    where
      contradiction : LastWhite (take s bs) → ⊥
      contradiction l =
          let long : length (take s bs) ≡ length l.front + 1 = ap length l.is ∙ last_length l.front l.last in
          let whole : length (take s bs) ≡ s = length-take-le s bs run.ordered in
          let at : length l.front + 1 ≡ s = sym long ∙ whole in
          let less : length l.front < s = omega (arith, at) in
          let here : slice_index bs (length l.front) ≡ l.last =
          sym (get_or-take s bs (length l.front) 0 less) ∙ ap (λ xs. get_or xs (length l.front) 0) l.is ∙ last_at l.front l.last in
          false≢true (sym (run.first (length l.front) at) ∙ ap white here ∙ l.white_last)

      decide : (w : Bool) → ends_white (chars (take s bs)) ≡ w → w ≡ false
      decide false e = refl
      decide true e =
          let cut = IsUtf8-take bs s utf8 cut_before_white in
          absurd (contradiction (subst LastWhite (encodes-chars (take s bs) cut) (last_white (chars (take s bs)) e)))

  -- it is the text without the whitespace at its end
  pub trim_is : chars (take s bs) ≡ trimmed (chars bs)
  trim_is =
      let cut = IsUtf8-take bs s utf8 cut_before_white in
      let rest = IsUtf8-drop bs s utf8 cut_before_white in
      let parts : chars bs ≡ chars (take s bs) ++ chars (drop s bs) =
      ap chars (sym (take-append-drop s bs)) ∙ chars-append (take s bs) (drop s bs) cut in
      let blank : list_all white (chars (drop s bs)) ≡ true =
      test-chars white (drop s bs) blind-white rest (λ k l. dropped k l) in
      sym (ap trimmed parts ∙ trimmed_is (chars (take s bs)) (chars (drop s bs)) ends_black blank)
    where
      dropped : (k : ℕ) → k < length (drop s bs) → white (get_or (drop s bs) k 0) ≡ true
      dropped k l = rw (get_or-drop s bs k 0) (run.run (s + k) (omega arith) (omega (arith, l, length-drop s bs)))
