-- Places in a text, the characters from there on, and how they change from place to place.
use Rattle.std.proofs.Common.{◌≡◌, ℕ, ◌+◌, ◌-◌, ◌<◌, ◌≤◌, true, List, [], ◌∷◌, ◌++◌, refl, ap, sym, ◌∙◌, arith, length, inl, inr, get_or}
use Rattle.std.proofs.Common.{take, drop, drop-drop, take-append-drop, length-drop, length-append, append_assoc, slice_range}
use lib.Utf8.{encodes, encode, scalar, scalars, scalar_cases}
use Rattle.std.{specs.{Char.len_utf8, List.list_all, Str.{IsUtf8, IsCharBoundary, chars}}, proofs.lemmas.Bool.{cases_lt, and_parts}}
use Rattle.std.proofs.lemmas.{Bool.{and_from, le-leb, or_left, or_right}, List.{drop_more, drop_all, drop_at, take_at, get_or-drop}}
use Rattle.std.proofs.lemmas.{List.append_cancel_right, Str.{chars-nil, chars-encodes, encodes-chars, encodes-append, scalars-chars}}
use Rattle.std.proofs.lemmas.Str.{chars-append, chars_past_char, cons_from_encodes, drop_past_char, IsUtf8-drop, IsUtf8-between}
use Rattle.std.proofs.lemmas.Str.{encode_ascii, length-encode, len_utf8_bounds, byte_from_char, char_from_byte, IsCharBoundary-before_ascii}
use Rattle.std.proofs.lemmas.Str.{IsCharBoundary-after_ascii, IsCharBoundary-at_seam, IsCharBoundary-from_rest, IsCharBoundary-past_char}
use Rattle.yaml_chars.specs.{Classes.code_point, Places.{rest, between}}

-- ---- the characters from a place on

-- from place 0 on there is the whole text
pub rest-start : (bs : List ℕ) → rest bs 0 ≡ chars bs
rest-start bs = refl

-- from the end on there is nothing
pub rest-end : (bs : List ℕ) (i : ℕ) → length bs ≤ i → rest bs i ≡ []
rest-end bs i l = ap chars (drop_all i bs l) ∙ chars-nil

-- the characters from a place on, in UTF-8, are the bytes from there on
pub encodes-rest : (bs : List ℕ) (i : ℕ) → IsUtf8 bs → IsCharBoundary bs i → encodes (rest bs i) ≡ drop i bs
encodes-rest bs i u b = encodes-chars (drop i bs) (IsUtf8-drop bs i u b)

-- an ASCII byte is a character
pub rest-ascii : (bs : List ℕ) (i : ℕ) → IsUtf8 bs → i < length bs → get_or bs i 0 < 128 → rest bs i ≡ get_or bs i 0 ∷ rest bs (i + 1)
rest-ascii bs i u l a =
    let b = get_or bs i 0 in
    let boundary = IsCharBoundary-before_ascii bs i l a in
    let split : drop i bs ≡ encode b ++ drop (i + 1) bs = drop_more bs i 0 l ∙ ap (λ x. x ++ drop (i + 1) bs) (sym (encode_ascii b a)) in
    chars_past_char (drop i bs) (drop (i + 1) bs) b (IsUtf8-drop bs i u boundary) split

-- the same characters are left at one place alone
pub same_place : (bs : List ℕ) (i j : ℕ) → IsUtf8 bs → IsCharBoundary bs i → IsCharBoundary bs j → rest bs i ≡ rest bs j → i ≡ j
same_place bs i j u b d e =
    let same : drop i bs ≡ drop j bs = sym (encodes-rest bs i u b) ∙ ap encodes e ∙ encodes-rest bs j u d in
    omega (arith, length-drop i bs, length-drop j bs, ap length same, b.0, d.0)

-- ---- the characters between two places

-- between a place and itself there is nothing
pub between-nil : (bs : List ℕ) (i : ℕ) → between bs i i ≡ []
between-nil bs i = ap (λ x. chars (take x (drop i bs))) (let e : i - i ≡ 0 = omega arith in e) ∙ chars-nil

-- the characters from a place on are those up to a later place and those from there on
pub rest-between : (bs : List ℕ) (i j : ℕ) → IsUtf8 bs → i ≤ j → IsCharBoundary bs i → IsCharBoundary bs j
    → rest bs i ≡ between bs i j ++ rest bs j
rest-between bs i j u l b d =
    let whole : take (j - i) (drop i bs) ++ drop (j - i) (drop i bs) ≡ drop i bs = take-append-drop (j - i) (drop i bs) in
    let later : drop (j - i) (drop i bs) ≡ drop j bs = drop-drop (j - i) i bs
    ∙ ap (λ x. drop x bs) (let e : i + (j - i) ≡ j = omega arith in e) in
    ap chars (sym whole) ∙ chars-append (take (j - i) (drop i bs)) (drop (j - i) (drop i bs))
    (IsUtf8-between bs i j u l b d) ∙ ap (λ x. chars (take (j - i) (drop i bs)) ++ chars x) later

-- the characters between two places, in UTF-8, are the bytes there
pub encodes-between : (bs : List ℕ) (i j : ℕ) → IsUtf8 bs → i ≤ j → IsCharBoundary bs i → IsCharBoundary bs j
    → encodes (between bs i j) ≡ slice_range bs i j
encodes-between bs i j u l b d = encodes-chars (slice_range bs i j) (IsUtf8-between bs i j u l b d)

-- the characters between two places, divided at a third
pub between-append : (bs : List ℕ) (i j k : ℕ) → IsUtf8 bs → i ≤ j → j ≤ k → IsCharBoundary bs i → IsCharBoundary bs j
    → IsCharBoundary bs k → between bs i k ≡ between bs i j ++ between bs j k
between-append bs i j k u l m b d f =
    append_cancel_right (between bs i k) (between bs i j ++ between bs j k) (rest bs k) (
    sym (rest-between bs i k u (omega arith) b f) ∙ rest-between bs i j u l b d
    ∙ ap (λ x. between bs i j ++ x) (rest-between bs j k u m d f)
    ∙ sym (append_assoc (between bs i j) (between bs j k) (rest bs k)))

-- one ASCII byte more before it, and at the end
pub between-ascii : (bs : List ℕ) (i j : ℕ) → IsUtf8 bs → i < j → IsCharBoundary bs j → get_or bs i 0 < 128
    → between bs i j ≡ get_or bs i 0 ∷ between bs (i + 1) j
between-ascii bs i j u l d a =
    let in_bs : i < length bs = omega (arith, d.0) in
    let here = IsCharBoundary-before_ascii bs i in_bs a in
    let next = IsCharBoundary-after_ascii bs i u in_bs a in
    append_cancel_right (between bs i j) (get_or bs i 0 ∷ between bs (i + 1) j) (rest bs j) (
    sym (rest-between bs i j u (omega arith) here d) ∙ rest-ascii bs i u in_bs a
    ∙ ap (λ x. get_or bs i 0 ∷ x) (rest-between bs (i + 1) j u (omega arith) next d))

-- an ASCII byte is the one character between its place and the next
pub between-one_ascii : (bs : List ℕ) (i : ℕ) → IsUtf8 bs → i < length bs → get_or bs i 0 < 128 → between bs i (i + 1) ≡ get_or bs i 0 ∷ []
between-one_ascii bs i u l a =
    between-ascii bs i (i + 1) u (omega arith) (IsCharBoundary-after_ascii bs i u l a) a
    ∙ ap (λ x. get_or bs i 0 ∷ x) (between-nil bs (i + 1))

-- an ASCII byte at the end is one character more
pub between-push_ascii : (bs : List ℕ) (i j : ℕ) → IsUtf8 bs → i ≤ j → IsCharBoundary bs i → j < length bs
    → get_or bs j 0 < 128 → between bs i (j + 1) ≡ between bs i j ++ get_or bs j 0 ∷ []
between-push_ascii bs i j u l b in_bs a =
    between-append bs i j (j + 1) u l (omega arith) b (IsCharBoundary-before_ascii bs j in_bs a) (IsCharBoundary-after_ascii bs j u in_bs a)
    ∙ ap (λ x. between bs i j ++ x) (between-one_ascii bs j u in_bs a)

-- ---- the character at a place

-- c is at the place; the place after it, and what the byte there says of it
pub record IsCharAt (bs : List ℕ) (i c : ℕ) : Type 0 where
  pub scalar : scalar c ≡ true
  pub bytes : drop i bs ≡ encode c ++ drop (i + len_utf8 c) bs
  pub splits : rest bs i ≡ c ∷ rest bs (i + len_utf8 c)
  pub boundary : IsCharBoundary bs (i + len_utf8 c)
  pub low : get_or bs i 0 < 128 → c ≡ get_or bs i 0
  pub high : 128 ≤ get_or bs i 0 → 128 ≤ c

-- a text that begins with the bytes of c begins with a scalar value
scalar_at_beginning : (bs after : List ℕ) (c : ℕ) → IsUtf8 bs → bs ≡ encode c ++ after → scalar c ≡ true
scalar_at_beginning bs after c u e =
    let parts = cons_from_encodes u.0 after c (u.1.1 ∙ e) in
    (and_parts (scalar c) (scalars parts.0) (ap scalars (sym parts.1) ∙ u.1.0)).0

-- the character whose bytes are at a place is the one there
pub char_at_is : (bs after : List ℕ) (i c : ℕ) → IsUtf8 bs → IsCharBoundary bs i → drop i bs ≡ encode c ++ after → IsCharAt bs i c
char_at_is bs after i c u b e =
    let v = IsUtf8-drop bs i u b in
    let later : drop (i + len_utf8 c) bs ≡ after = drop_past_char bs after i c e in
    let bytes : drop i bs ≡ encode c ++ drop (i + len_utf8 c) bs = e ∙ ap (λ x. encode c ++ x) (sym later) in
    let first : get_or (drop i bs) 0 0 ≡ get_or bs i 0 = get_or-drop i bs 0 0
    ∙ ap (λ x. get_or bs x 0) (let z : i + 0 ≡ i = omega arith in z) in
    let size : 0 < length (drop i bs) = omega (
      arith,
      ap length e,
      length-append (encode c) after,
      length-encode c,
      (len_utf8_bounds c).0,
    ) in
    record {
      scalar = scalar_at_beginning (drop i bs) after c v e;
      bytes = bytes;
      splits = chars_past_char (drop i bs) (drop (i + len_utf8 c) bs) c v bytes;
      boundary = IsCharBoundary-past_char bs after i c b.0 v e;
      low = λ a. char_from_byte (drop i bs) after c e (omega arith) size ∙ first;
      high = λ a. elim (cases_lt c 128) [
        | inl low ↦ (let same = byte_from_char (drop i bs) after c e low in absurd (omega arith))
        | inr high ↦ high
      ];
    }

-- before the end there is a character at each place
pub char_at : (bs : List ℕ) (i : ℕ) → IsUtf8 bs → IsCharBoundary bs i → i < length bs → (c : ℕ) × IsCharAt bs i c
char_at bs i u b l =
    let v = IsUtf8-drop bs i u b in
    go v.0 v.1.1
  where
    go : (es : List ℕ) → encodes es ≡ drop i bs → (c : ℕ) × IsCharAt bs i c
    go [] e = absurd (omega (arith, length-drop i bs, ap (λ (x : List ℕ). length x) e))
    go (c ∷ es) e = (c, char_at_is bs (encodes es) i c u b (sym e))

-- ---- where the characters from a place on are two lists in a row

-- a text is split at a place, and the two parts are these characters
pub record IsSplit (bs : List ℕ) (i : ℕ) (prefix after : List ℕ) (j : ℕ) : Type 0 where
  pub above : i ≤ j
  pub boundary : IsCharBoundary bs j
  pub spells_prefix : between bs i j ≡ prefix
  pub spells_after : rest bs j ≡ after

-- both parts of a list of scalar values are such lists
scalars-append : (cs ds : List ℕ) → scalars (cs ++ ds) ≡ true → (scalars cs ≡ true) × (scalars ds ≡ true)
scalars-append [] ds e = (refl, e)
scalars-append (c ∷ cs) ds e =
    let here = and_parts (scalar c) (scalars (cs ++ ds)) e in
    let later = scalars-append cs ds here.1 in
    (and_from (scalar c) (scalars cs) here.0 later.0, later.1)

-- the second list starts at a place of the text
pub split_at : (bs : List ℕ) (i : ℕ) (prefix after : List ℕ) → IsUtf8 bs → IsCharBoundary bs i
    → rest bs i ≡ prefix ++ after → IsSplit bs i prefix after (i + length (encodes prefix))
split_at bs i prefix after u b e =
    let v = IsUtf8-drop bs i u b in
    let n = length (encodes prefix) in
    let both = scalars-append prefix after (ap scalars (sym e) ∙ scalars-chars (drop i bs) v) in
    let bytes : drop i bs ≡ encodes prefix ++ encodes after = sym (encodes-rest bs i u b) ∙ ap encodes e ∙ encodes-append prefix after in
    let cut : drop (i + n) bs ≡ encodes after = sym (drop-drop n i bs) ∙ ap (drop n) bytes
    ∙ drop_at (encodes prefix) (encodes after) n refl in
    let size : (i + n) - i ≡ n = omega arith in
    let taken : slice_range bs i (i + n) ≡ encodes prefix = ap (λ x. take x (drop i bs)) size ∙ ap (take n) bytes
    ∙ take_at (encodes prefix) (encodes after) n refl in
    record {
      above = omega arith;
      boundary = IsCharBoundary-from_rest bs i n b.0
          (IsCharBoundary-at_seam (drop i bs) (encodes prefix) (encodes after) bytes (after, (both.1, refl)));
      spells_prefix = ap chars taken ∙ chars-encodes prefix both.0;
      spells_after = ap chars cut ∙ chars-encodes after both.1;
    }

-- ---- the characters of a text are Unicode scalar values

-- a Unicode scalar value is a code point
pub code_point-scalar : (c : ℕ) → scalar c ≡ true → code_point c ≡ true
code_point-scalar c s = elim (scalar_cases c s) [
  | inl low ↦ or_left _ _ (and_from _ _ (le-leb 0 c (omega arith)) (le-leb c 0xd7ff (omega arith)))
  | inr high ↦ or_right _ _ (and_from _ _ (le-leb 0xe000 c (omega arith)) (le-leb c 0x10ffff (omega arith)))
]

-- scalar values are code points of a text
code_points-scalars : (cs : List ℕ) → scalars cs ≡ true → list_all code_point cs ≡ true
code_points-scalars [] s = refl
code_points-scalars (c ∷ cs) s =
    let both = and_parts (scalar c) (scalars cs) s in and_from _ _ (code_point-scalar c both.0) (code_points-scalars cs both.1)

-- the characters of UTF-8 are code points
pub code_points-chars : (bs : List ℕ) → IsUtf8 bs → list_all code_point (chars bs) ≡ true
code_points-chars bs u = code_points-scalars (chars bs) (scalars-chars bs u)
