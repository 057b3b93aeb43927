-- A test of each byte is one of each character, where it does not tell characters from 128 on apart.
use Rattle.std.proofs.Common.{◌≡◌, ℕ, zero, suc, ◌+◌, ◌-◌, ◌<◌, ◌≤◌, Bool, true, false, not, ◌||◌, List, []}
use Rattle.std.proofs.Common.{◌∷◌, ◌++◌, refl, ap, sym, ◌∙◌, subst, arith, length, inl, inr, get_or, drop}
use Rattle.std.proofs.Common.{length-append, length-drop, append-nil, slice_range, slice_index, ltb, ltb-true}
use lib.Utf8.{encodes, encode, scalar, scalars, scalar_cases}
use Rattle.std.{specs.{Char.len_utf8, List.{AllPass, list_all}, Str.{IsUtf8, IsCharBoundary, chars}}, proofs.lemmas.Bool.cases_lt}
use Rattle.std.proofs.lemmas.{Bool.{cases_Bool, and_parts, and_from, cond_both, false≢true, Decides.nat_tests}, List.get_or-append-add}
use Rattle.std.proofs.lemmas.{List.{get_or-take, get_or-drop, get_or_past, length-take, Sums.AllPass-from_list_all}, Str.chars-encodes}
use Rattle.std.proofs.lemmas.Str.{encodes-chars, scalars-chars, IsUtf8-between, encode_ascii, byte_from_char, char_from_byte, length-encode}
use Rattle.std.proofs.lemmas.Str.{len_utf8_bounds, IsCharBoundary-before_ascii, IsCharBoundary-after_ascii, IsCharBoundary-end}
use Rattle.yaml_chars.{specs.{Classes.{line_break, white, space}, Breaks.no_break, Places.{rest, between, IsRun}}, proofs.Places.IsCharAt}
use Rattle.yaml_chars.proofs.Places.{char_at, rest-end}

-- the test answers alike at all characters from 128 on
abbrev pub IsBlind : (ℕ → Bool) → Type 0
IsBlind test = (c : ℕ) → 128 ≤ c → c < 0x110000 → test c ≡ test 128

-- the test for whitespace doesn't distinguish characters from 128 on
pub blind-white : IsBlind white
blind-white c h l = grind (arith, nat_tests)

-- nor does that for spaces
pub blind-space : IsBlind space
blind-space c h l = grind (arith, nat_tests)

-- nor that for breaks
pub blind-line_break : IsBlind line_break
blind-line_break c h l = grind (arith, nat_tests)

-- nor that for all but breaks
pub blind-no_break : IsBlind no_break
blind-no_break c h l = grind (arith, nat_tests)

-- nor does the negation of such a test
pub blind-not : (test : ℕ → Bool) → IsBlind test → IsBlind (λ c. not (test c))
blind-not test h c high fits = ap not (h c high fits)

-- nor does one of two such tests
pub blind-or : (one other : ℕ → Bool) → IsBlind one → IsBlind other → IsBlind (λ c. one c || other c)
blind-or one other h g c high fits = ap (λ x. x || other c) (h c high fits) ∙ ap (λ x. one 128 || x) (g c high fits)

-- ---- the bytes of a text are bytes

-- each element is a byte
AreBytes : List ℕ → Type 0
AreBytes bs = (k : ℕ) → get_or bs k 0 < 256

-- the empty list has no other element
no_bytes : AreBytes []
unfolding AreBytes
no_bytes k = omega (arith, get_or_past {X = ℕ} [] k 0)

-- a byte before bytes
one_more : (b : ℕ) (bs : List ℕ) → b < 256 → AreBytes bs → AreBytes (b ∷ bs)
unfolding AreBytes
one_more b bs l h zero = l
one_more b bs l h (suc k) = h k

-- the encoding of a character is made of bytes
bytes-encode : (c : ℕ) → c < 0x110000 → AreBytes (encode c)
unfolding encode
bytes-encode c l =
    cond_both (ltb c 128) _ _ AreBytes (λ e. (let a = ltb-true c 128 e in one_more _ _ (omega arith) no_bytes))
    (λ e. cond_both (ltb c 2048) _ _ AreBytes (λ f.
    (let a = ltb-true c 2048 f in one_more _ _ (omega arith) (one_more _ _ (omega arith) no_bytes)))
    (λ f. cond_both (ltb c 65536) _ _ AreBytes (λ g.
    (let a = ltb-true c 65536 g in one_more _ _ (omega arith)
    (one_more _ _ (omega arith) (one_more _ _ (omega arith) no_bytes))))
    (λ g. one_more _ _ (omega arith) (one_more _ _ (omega arith) (one_more _ _ (omega arith) (one_more _ _ (omega arith) no_bytes))))))

-- two lists of bytes, joined, are bytes
bytes-append : (xs ys : List ℕ) → AreBytes xs → AreBytes ys → AreBytes (xs ++ ys)
unfolding AreBytes
bytes-append [] ys h g = g
bytes-append (x ∷ xs) ys h g = one_more x (xs ++ ys) (h zero) (bytes-append xs ys (λ k. h (suc k)) g)

-- a scalar value is below 0x110000
scalar_fits : (c : ℕ) → scalar c ≡ true → c < 0x110000
scalar_fits c s = elim (scalar_cases c s) [ inl low ↦ omega arith | inr high ↦ high.1 ]

-- the encoding of characters is made of bytes
bytes-encodes : (cs : List ℕ) → scalars cs ≡ true → AreBytes (encodes cs)
bytes-encodes [] s = no_bytes
bytes-encodes (c ∷ cs) s =
    let both = and_parts (scalar c) (scalars cs) s in
    bytes-append (encode c) (encodes cs) (bytes-encode c (scalar_fits c both.0)) (bytes-encodes cs both.1)

-- each byte of a text is below 256
pub byte_fits : (bs : List ℕ) (k : ℕ) → IsUtf8 bs → get_or bs k 0 < 256
unfolding AreBytes
byte_fits bs k u = subst AreBytes u.1.1 (bytes-encodes u.0 u.1.0) k

-- ---- one character

-- a blind test answers alike on a character and on the byte that it begins with
blind_both : (test : ℕ → Bool) (c b : ℕ) → IsBlind test → c < 0x110000 → b < 256 → (b < 128 → c ≡ b) → (128 ≤ b → 128 ≤ c) → test c ≡ test b
blind_both test c b blind fits byte low high = elim (cases_lt b 128) [
  | inl l ↦ ap test (low l)
  | inr h ↦ blind c (high h) fits ∙ sym (blind b h (omega arith))
]

-- such a test of the character at a place is that of the byte there
pub test-char_at : (test : ℕ → Bool) (bs : List ℕ) (i c : ℕ) → IsBlind test → IsUtf8 bs → IsCharAt bs i c → test c ≡ test (get_or bs i 0)
test-char_at test bs i c blind u at = blind_both test c (get_or bs i 0) blind (scalar_fits c at.scalar) (byte_fits bs i u) at.low at.high

-- ---- all characters

-- the test passes each byte
AllBytesPass : (ℕ → Bool) → List ℕ → Type 0
AllBytesPass test bs = (k : ℕ) → k < length bs → test (get_or bs k 0) ≡ true

-- a blind test that passes each byte passes each character
test-encodes : (test : ℕ → Bool) (cs : List ℕ) → IsBlind test → scalars cs ≡ true → AllBytesPass test (encodes cs) → list_all test cs ≡ true
unfolding AllBytesPass
test-encodes test [] blind s h = refl
test-encodes test (c ∷ cs) blind s h =
    let both = and_parts (scalar c) (scalars cs) s in
    let all = encode c ++ encodes cs in
    let size : 1 ≤ length (encode c) = omega (arith, length-encode c, (len_utf8_bounds c).0) in
    let there : 0 < length all = omega (arith, length-append (encode c) (encodes cs)) in
    let fits = scalar_fits c both.0 in
    let first : get_or all 0 0 < 256 = byte_fits all 0 (c ∷ cs, (s, refl)) in
    let here : test c ≡ test (get_or all 0 0) =
    blind_both test c (get_or all 0 0) blind fits first (λ a. char_from_byte all (encodes cs) c refl a there)
    (λ a. elim (cases_lt c 128) [
      | inl low ↦ (let same = byte_from_char all (encodes cs) c refl low in absurd (omega arith))
      | inr high ↦ high
    ]) in
    let later : AllBytesPass test (encodes cs) = λ k l. sym (ap test (get_or-append-add (encode c) (encodes cs) k 0))
    ∙ h (length (encode c) + k) (omega (arith, length-append (encode c) (encodes cs))) in
    and_from (test c) (list_all test cs) (here ∙ h 0 there) (test-encodes test cs blind both.1 later)

-- where each byte passes, each character does
pub test-chars : (test : ℕ → Bool) (bs : List ℕ) → IsBlind test → IsUtf8 bs
    → ((k : ℕ) → k < length bs → test (get_or bs k 0) ≡ true) → list_all test (chars bs) ≡ true
unfolding AllBytesPass
test-chars test bs blind u h = test-encodes test (chars bs) blind (scalars-chars bs u)
    (subst (AllBytesPass test) (sym (encodes-chars bs u)) h)

-- if all bytes pass such a test, all characters do
pub AllPass-chars : (test : ℕ → Bool) (bs : List ℕ) → IsBlind test → IsUtf8 bs → AllPass test bs → AllPass test (chars bs)
AllPass-chars test bs blind u h = AllPass-from_list_all test (chars bs) (test-chars test bs blind u (λ k l. h k 0 l))

-- the same between two places
pub test-between : (test : ℕ → Bool) (bs : List ℕ) (i j : ℕ) → IsBlind test → IsUtf8 bs → i ≤ j → IsCharBoundary bs i → IsCharBoundary bs j
    → ((k : ℕ) → i ≤ k → k < j → test (get_or bs k 0) ≡ true) → list_all test (between bs i j) ≡ true
test-between test bs i j blind u l b d h =
    test-chars test (slice_range bs i j) blind (IsUtf8-between bs i j u l b d) (λ k below.
    (let inside : k < j - i = omega (arith, length-take (j - i) (drop i bs)) in
    ap test (get_or-take (j - i) (drop i bs) k 0 inside ∙ get_or-drop i bs k 0) ∙ h (i + k) (omega arith) (omega arith)))

-- ---- the last character

-- c comes before the place j, after the others from i on; what the last byte says of it
pub record IsLastChar (bs : List ℕ) (i j : ℕ) (prefix : List ℕ) (c : ℕ) : Type 0 where
  pub splits : between bs i j ≡ prefix ++ c ∷ []
  pub fits : c < 0x110000
  pub low : get_or bs (j - 1) 0 < 128 → c ≡ get_or bs (j - 1) 0
  pub high : 128 ≤ get_or bs (j - 1) 0 → 128 ≤ c

-- the last byte, or 0
last_byte : List ℕ → ℕ
last_byte bs = get_or bs (length bs - 1) 0

-- the last byte of a character from 128 on is from 128 on
last-encode : (c : ℕ) → 128 ≤ c → 128 ≤ last_byte (encode c)
unfolding encode last_byte
last-encode c h =
    cond_both (ltb c 128) _ _ (λ xs. 128 ≤ get_or xs (length xs - 1) 0) (λ e. (let a = ltb-true c 128 e in omega arith))
    (λ e. cond_both (ltb c 2048) _ _ (λ xs. 128 ≤ get_or xs (length xs - 1) 0) (λ f. omega arith)
    (λ f. cond_both (ltb c 65536) _ _ (λ xs. 128 ≤ get_or xs (length xs - 1) 0) (λ g. omega arith) (λ g. omega arith)))

-- the last byte of two lists, joined, is that of the second
last-append : (xs ys : List ℕ) → 0 < length ys → last_byte (xs ++ ys) ≡ last_byte ys
unfolding last_byte
last-append xs ys h =
    let e : length (xs ++ ys) - 1 ≡ length xs + (length ys - 1) = omega (arith, length-append xs ys) in
    ap (λ x. get_or (xs ++ ys) x 0) e ∙ get_or-append-add xs ys (length ys - 1) 0

-- the characters end in c; what the last byte of their encoding says of it
record Ends (cs prefix : List ℕ) (c : ℕ) : Type 0 where
  splits : cs ≡ prefix ++ c ∷ []
  fits : c < 0x110000
  low : last_byte (encodes cs) < 128 → c ≡ last_byte (encodes cs)
  high : 128 ≤ last_byte (encodes cs) → 128 ≤ c

-- there is a last character
last_of : (c : ℕ) (cs : List ℕ) → scalars (c ∷ cs) ≡ true → (prefix : List ℕ) × (d : ℕ) × Ends (c ∷ cs) prefix d
unfolding last_byte
last_of c [] s =
    let one : encode c ++ [] ≡ encode c = append-nil (encode c) in
    let last : last_byte (encode c ++ []) ≡ last_byte (encode c) = ap last_byte one in (
      [],
      c,
      record {
        splits = refl;
        fits = scalar_fits c (and_parts (scalar c) true s).0;
        low = λ a. elim (cases_lt c 128) [
          | inl low ↦ sym (last ∙ ap last_byte (encode_ascii c low))
          | inr high ↦ (let above = last-encode c high in absurd (omega arith))
        ];
        high = λ a. elim (cases_lt c 128) [
          | inl low ↦ (let same = ap last_byte (encode_ascii c low) in absurd (omega arith))
          | inr high ↦ high
        ];
      },
    )
last_of c (d ∷ cs) s =
    let later = last_of d cs (and_parts (scalar c) (scalars (d ∷ cs)) s).1 in
    let ends = later.2 in
    let more = encodes (d ∷ cs) in
    let size : 0 < length more = omega (arith, length-append (encode d) (encodes cs), length-encode d, (len_utf8_bounds d).0) in
    let same : last_byte (encode c ++ more) ≡ last_byte more = last-append (encode c) more size in (
      c ∷ later.0,
      later.1,
      record {
        splits = ap (λ x. c ∷ x) ends.splits;
        fits = ends.fits;
        low = λ a. ends.low (omega arith) ∙ sym same;
        high = λ a. ends.high (omega arith);
      },
    )

-- between two places there is a last character
pub last_char : (bs : List ℕ) (i j : ℕ) → IsUtf8 bs → i < j → IsCharBoundary bs i → IsCharBoundary bs j
    → (prefix : List ℕ) × (c : ℕ) × IsLastChar bs i j prefix c
unfolding last_byte
last_char bs i j u l b d =
    let cut = slice_range bs i j in
    let v = IsUtf8-between bs i j u (omega arith) b d in
    let size : length cut ≡ j - i = omega (arith, length-take (j - i) (drop i bs), length-drop i bs, d.0) in
    let last : last_byte cut ≡ get_or bs (j - 1) 0 = ap (λ x. get_or cut x 0) (ap (λ x. x - 1) size)
    ∙ get_or-take (j - i) (drop i bs) (j - i - 1) 0 (omega arith) ∙ get_or-drop i bs (j - i - 1) 0
    ∙ ap (λ x. get_or bs x 0) (let e : i + (j - i - 1) ≡ j - 1 = omega arith in e) in
    go (chars cut) (scalars-chars cut v) (encodes-chars cut v) size last
  where
    go : (cs : List ℕ) → scalars cs ≡ true → encodes cs ≡ slice_range bs i j → length (slice_range bs i j) ≡ j - i
        → last_byte (slice_range bs i j) ≡ get_or bs (j - 1) 0 → (prefix : List ℕ) × (c : ℕ) × IsLastChar bs i j prefix c
    go [] s e size last = absurd (omega (arith, ap (λ (x : List ℕ). length x) e))
    go (c ∷ cs) s e size last =
        let found = last_of c cs s in
        let ends = found.2 in
        let same : last_byte (encodes (c ∷ cs)) ≡ get_or bs (j - 1) 0 = ap last_byte e ∙ last in (
          found.0,
          found.1,
          record {
            splits = ap chars (sym e) ∙ chars-encodes (c ∷ cs) s ∙ ends.splits;
            fits = ends.fits;
            low = λ a. ends.low (omega arith) ∙ same;
            high = λ a. ends.high (omega arith);
          },
        )

-- such a test of the last character is that of the last byte
pub test-last_char : (test : ℕ → Bool) (bs : List ℕ) (i j : ℕ) (prefix : List ℕ) (c : ℕ) → IsBlind test → IsUtf8 bs
    → IsLastChar bs i j prefix c → test c ≡ test (get_or bs (j - 1) 0)
test-last_char test bs i j prefix c blind u last =
    blind_both test c (get_or bs (j - 1) 0) blind last.fits (byte_fits bs (j - 1) u) last.low last.high

-- ---- runs

-- a place where a test that passes all characters from 128 on stops is one between characters
boundary_at_stop : (test : ℕ → Bool) (bs : List ℕ) (j : ℕ) → IsBlind test → test 128 ≡ true → IsUtf8 bs
    → j ≤ length bs → (j < length bs → test (slice_index bs j) ≡ false) → IsCharBoundary bs j
boundary_at_stop test bs j blind high u l stop = elim (cases_lt j (length bs)) [
  | inl in_bs ↦ IsCharBoundary-before_ascii bs j in_bs (elim (cases_lt (get_or bs j 0) 128) [
    | inl a ↦ a
    | inr a ↦ (let fits = byte_fits bs j u in absurd (false≢true (sym (stop in_bs) ∙ blind (get_or bs j 0) a (omega arith) ∙ high)))
  ])
  | inr past ↦ (let e : length bs ≡ j = omega arith in subst (λ x. IsCharBoundary bs x) e (IsCharBoundary-end bs))
]

-- the same of what comes after characters that pass a test which no character from 128 on passes
boundary_after : (test : ℕ → Bool) (bs : List ℕ) (i j : ℕ) → IsBlind test → test 128 ≡ false → IsUtf8 bs
    → IsCharBoundary bs i → i ≤ j → j ≤ length bs
    → ((k : ℕ) → i ≤ k → k < j → test (slice_index bs k) ≡ true) → IsCharBoundary bs j
boundary_after test bs i j blind high u b l within passes = elim (cases_lt i j) [
  | inl more ↦ (let last = passes (j - 1) (omega arith) (omega arith) in
      let ascii : get_or bs (j - 1) 0 < 128 = elim (cases_lt (get_or bs (j - 1) 0) 128) [
        | inl a ↦ a
        | inr a ↦ (let fits = byte_fits bs (j - 1) u in
            absurd (false≢true (sym high ∙ sym (blind (get_or bs (j - 1) 0) a (omega arith)) ∙ last)))
      ] in
      let e : (j - 1) + 1 ≡ j = omega arith in
      subst (λ x. IsCharBoundary bs x) e (IsCharBoundary-after_ascii bs (j - 1) u (omega arith) ascii))
  | inr same ↦ (let e : i ≡ j = omega arith in subst (λ x. IsCharBoundary bs x) e b)
]

-- What a loop over bytes finds by a blind test is a run of characters.
pub run_is : (test : ℕ → Bool) (bs : List ℕ) (i j : ℕ) → IsBlind test → IsUtf8 bs → IsCharBoundary bs i → i ≤ j → j ≤ length bs
    → ((k : ℕ) → i ≤ k → k < j → test (slice_index bs k) ≡ true) → (j < length bs → test (slice_index bs j) ≡ false) → IsRun test bs i j
run_is test bs i j blind u b l within passes stop =
    let d : IsCharBoundary bs j = elim (cases_Bool (test 128)) [
      | inl high ↦ boundary_at_stop test bs j blind high u within stop
      | inr high ↦ boundary_after test bs i j blind high u b l within passes
    ] in
    record {
      above = l;
      boundary = d;
      passes = AllPass-from_list_all test (between bs i j) (test-between test bs i j blind u l b d passes);
      stop = stop;
    }

-- The characters after a run do not begin with one that passes.
pub run_stops : (test : ℕ → Bool) (bs : List ℕ) (i j c : ℕ) (cs : List ℕ) → IsBlind test → IsUtf8 bs
    → IsRun test bs i j → rest bs j ≡ c ∷ cs → test c ≡ false
run_stops test bs i j c cs blind u run e = elim (cases_lt j (length bs)) [
  | inl l ↦ (let there = char_at bs j u run.boundary l in
      let prefix : c ∷ cs ≡ there.0 ∷ rest bs (j + len_utf8 there.0) = sym e ∙ there.1.splits in
      let same : c ≡ there.0 = cc in
      ap test same ∙ test-char_at test bs j there.0 blind u there.1 ∙ run.stop l)
  | inr past ↦ (let none : [] ≡ c ∷ cs = sym (rest-end bs j past) ∙ e in cc)
]
