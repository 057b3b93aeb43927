-- The first character at a place, and runs of characters from there on, by the bytes.
use Rattle.std.proofs.Common.{◌≡◌, ℕ, zero, suc, ◌+◌, ◌-◌, ◌<◌, ◌≤◌, Bool, true, false, List, [], ◌∷◌, ◌++◌, refl, ap, sym, ◌∙◌, subst}
use Rattle.std.{proofs.Common.{arith, length, inl, inr, get_or, drop, append_assoc, append-nil}, specs.Prelude.nat_lt}
use Rattle.yaml_scan.proofs.Prelude.{list_all, IsUtf8, IsCharBoundary, len_utf8, and_parts, cases_lt, cond-true, cond-false, eqb-true}
use Rattle.yaml_scan.proofs.Prelude.{nat_tests, append_cancel_right, drop_all, drop_more, IsCharBoundary-after_ascii, nb, space, rest}
use Rattle.yaml_scan.proofs.Prelude.{between, IsRun, char_at, rest-ascii, rest-end, rest-between, between-nil, between-append, IsBlind}
use Rattle.yaml_scan.proofs.Prelude.{run_is, run_stops, test-between, test-char_at, blind-space, spaces_before, past_spaces, first, spaces}
use Rattle.yaml_scan.proofs.Prelude.{drop_while_all, spaces_counted, spaces_passed, take_while_all, drop_while, take_while}
use Rattle.yaml_scan.specs.{Classes.{line_ascii, ArePassed}, ScanPlaces.{AreSpaces, AreTaken, IsNb}}
use Rattle.yaml_recognizers.proofs.Basics.Spaces.{spaces_dropped}

-- ---- the first character

-- a test of the first character from a place on is that of the byte there
pub first_there : (test : ℕ → Bool) (bs : List ℕ) (i : ℕ) → IsBlind test → IsUtf8 bs → IsCharBoundary bs i
    → i < length bs → first test (rest bs i) ≡ test (get_or bs i 0)
first_there test bs i blind u b l =
    let there = char_at bs i u b l in
    ap (first test) there.1.splits ∙ test-char_at test bs i there.0 blind u there.1

-- at the end there is no first character
pub first_at_end : (test : ℕ → Bool) (bs : List ℕ) (i : ℕ) → length bs ≤ i → first test (rest bs i) ≡ false
first_at_end test bs i l = ap (first test) (rest-end bs i l)

-- a blind test of the first byte is one of the first character
pub first-rest : (test : ℕ → Bool) (bs : List ℕ) (i : ℕ) → IsBlind test → IsUtf8 bs → IsCharBoundary bs i
    → first test (rest bs i) ≡ first test (drop i bs)
first-rest test bs i blind u b = elim (cases_lt i (length bs)) [
  | inl l ↦ first_there test bs i blind u b l ∙ sym (ap (first test) (drop_more bs i 0 l))
  | inr past ↦ first_at_end test bs i past ∙ sym (ap (first test) (drop_all i bs past))
]

-- an ASCII character before it is a byte there, and what follows it
pub record IsAsciiAt (bs : List ℕ) (i c : ℕ) (after : List ℕ) : Type 0 where
  pub within : i < length bs
  pub byte : get_or bs i 0 ≡ c
  pub boundary : IsCharBoundary bs (i + 1)
  pub leaves : after ≡ rest bs (i + 1)

-- the first character from a place on, if it is ASCII, is the byte there
pub ascii_at_beginning : (bs : List ℕ) (i c : ℕ) (after : List ℕ) → IsUtf8 bs → IsCharBoundary bs i → c < 128
    → rest bs i ≡ c ∷ after → IsAsciiAt bs i c after
ascii_at_beginning bs i c after u b a e = elim (cases_lt i (length bs)) [
  | inl l ↦ (let there = char_at bs i u b l in
      let prefix : there.0 ∷ rest bs (i + len_utf8 there.0) ≡ c ∷ after = sym there.1.splits ∙ e in
      let same : there.0 ≡ c = cc in
      let byte : get_or bs i 0 ≡ c = elim (cases_lt (get_or bs i 0) 128) [
        | inl low ↦ sym (there.1.low low) ∙ same
        | inr high ↦ (let above = there.1.high high in absurd (omega arith))
      ] in
      let low : get_or bs i 0 < 128 = omega arith in
      let whole : c ∷ after ≡ get_or bs i 0 ∷ rest bs (i + 1) = sym e ∙ rest-ascii bs i u l low in
      record { within = l; byte = byte; boundary = IsCharBoundary-after_ascii bs i u l low; leaves = cc })
  | inr past ↦ (let none : [] ≡ c ∷ after = sym (rest-end bs i past) ∙ e in cc)
]

-- an ASCII byte is the character before it
pub ascii_prefix : (bs : List ℕ) (i c : ℕ) → IsUtf8 bs → i < length bs → c < 128 → get_or bs i 0 ≡ c
    → (rest bs i ≡ c ∷ rest bs (i + 1)) × IsCharBoundary bs (i + 1)
ascii_prefix bs i c u l a e =
    let low : get_or bs i 0 < 128 = omega arith in
    (rest-ascii bs i u l low ∙ ap (λ x. x ∷ rest bs (i + 1)) e, IsCharBoundary-after_ascii bs i u l low)

-- ---- runs by a blind test

-- one word for a test of all characters means the other

stops : (test : ℕ → Bool) (bs : List ℕ) (i j : ℕ) → IsBlind test → IsUtf8 bs → IsRun test bs i j → (cs : List ℕ)
    → rest bs j ≡ cs → first test cs ≡ false
stops test bs i j blind u run [] e = refl
stops test bs i j blind u run (c ∷ cs) e = run_stops test bs i j c cs blind u run e

-- bytes that pass a test up to one that fails it are the longest prefix of characters that pass
pub take_while_is : (test : ℕ → Bool) (bs : List ℕ) (i j : ℕ) → IsBlind test → IsUtf8 bs → IsCharBoundary bs i → i ≤ j → j ≤ length bs
    → ((k : ℕ) → i ≤ k → k < j → test (get_or bs k 0) ≡ true) → (j < length bs → test (get_or bs j 0) ≡ false) → AreTaken test bs i j
take_while_is test bs i j blind u b l within passes stop =
    let run : IsRun test bs i j = run_is test bs i j blind u b l within passes stop in
    let split : rest bs i ≡ between bs i j ++ rest bs j = rest-between bs i j u l b run.boundary in
    let all : list_all test (between bs i j) ≡ true = test-between test bs i j blind u l b run.boundary passes in
    let end : first test (rest bs j) ≡ false = stops test bs i j blind u run (rest bs j) refl in
    record {
      above = l;
      boundary = run.boundary;
      takes = ap (take_while test) split ∙ take_while_all test (between bs i j) (rest bs j) all end;
      leaves = ap (drop_while test) split ∙ drop_while_all test (between bs i j) (rest bs j) all end;
    }

-- ---- spaces

-- so many bytes that are spaces
pub spaces_there : (bs : List ℕ) (i k : ℕ) → IsUtf8 bs → IsCharBoundary bs i → i + k ≤ length bs
    → ((j : ℕ) → i ≤ j → j < i + k → get_or bs j 0 ≡ 32)
    → (rest bs i ≡ spaces k ++ rest bs (i + k)) × IsCharBoundary bs (i + k)
spaces_there bs i zero u b l h =
    let e : i ≡ i + 0 = omega arith in (ap (rest bs) e, subst (λ x. IsCharBoundary bs x) e b)
spaces_there bs i (suc k) u b l h =
    let here = ascii_prefix bs i 32 u (omega arith) (omega arith) (h i (omega arith) (omega arith)) in
    let more = spaces_there bs (i + 1) k u here.1 (omega arith) (λ j from to. h j (omega arith) (omega arith)) in
    let e : i + 1 + k ≡ i + suc k = omega arith in
    (here.0 ∙ ap (λ x. 32 ∷ x) (more.0 ∙ ap (λ x. spaces k ++ rest bs x) e), subst (λ x. IsCharBoundary bs x) e more.1)

-- so are spaces
pub spaces_are : (bs : List ℕ) (i j : ℕ) → IsUtf8 bs → IsCharBoundary bs i → i ≤ j → j ≤ length bs
    → ((k : ℕ) → i ≤ k → k < j → space (get_or bs k 0) ≡ true) → (j < length bs → space (get_or bs j 0) ≡ false) → AreSpaces bs i j
spaces_are bs i j u b l within h stop =
    let e : i + (j - i) ≡ j = omega arith in
    let each : (k : ℕ) → i ≤ k → k < j → get_or bs k 0 ≡ 32 = λ k from to. eqb-true (get_or bs k 0) 32 (h k from to) in
    let there = spaces_there bs i (j - i) u b (omega arith) (λ k from to. each k from (omega arith)) in
    let boundary : IsCharBoundary bs j = subst (λ x. IsCharBoundary bs x) e there.1 in
    let split : rest bs i ≡ spaces (j - i) ++ rest bs j = there.0 ∙ ap (λ x. spaces (j - i) ++ rest bs x) e in
    let end : first space (rest bs j) ≡ false = elim (cases_lt j (length bs)) [
      | inl more ↦ first_there space bs j blind-space u boundary more ∙ stop more
      | inr past ↦ first_at_end space bs j past
    ] in
    record {
      above = l;
      boundary = boundary;
      spaces = each;
      stop = end;
      counts = ap spaces_before split ∙ spaces_counted (j - i) (rest bs j) end;
      leaves = ap past_spaces split ∙ spaces_passed (j - i) (rest bs j) end;
    }

-- the same, of bytes that were passed
pub spaces_passed_are : (bs : List ℕ) (i j : ℕ) → IsUtf8 bs → IsCharBoundary bs i → ArePassed space bs i j
    → (j < length bs → space (get_or bs j 0) ≡ false) → AreSpaces bs i j
spaces_passed_are bs i j u b h stop = spaces_are bs i j u b h.above h.within h.passes stop

-- after the first q of them
pub spaces_dropped_at : (bs : List ℕ) (i j q : ℕ) → IsUtf8 bs → IsCharBoundary bs i → AreSpaces bs i j → q ≤ j - i
    → (drop q (rest bs i) ≡ rest bs (i + q)) × IsCharBoundary bs (i + q)
spaces_dropped_at bs i j q u b h l =
    let there = spaces_there bs i q u b (let below = h.boundary.0 in omega arith) (λ k from to. h.spaces k from (omega arith)) in
    (ap (drop q) there.0 ∙ spaces_dropped q (rest bs (i + q)), there.1)

-- ---- characters of a line

-- a byte that is nb is a character that is nb
pub nb_by_byte : (bs : List ℕ) (i : ℕ) → IsUtf8 bs → i < length bs → line_ascii (get_or bs i 0) ≡ true → IsNb bs i (i + 1)
nb_by_byte bs i u l h =
    let parts : (nat_lt (get_or bs i 0) 128 ≡ true) × (nb (get_or bs i 0) ≡ true) =
    and_parts (nat_lt (get_or bs i 0) 128) (nb (get_or bs i 0)) h in
    let low : get_or bs i 0 < 128 = is_below (get_or bs i 0) parts.0 in
    let there = ascii_prefix bs i (get_or bs i 0) u l low refl in
    record { above = omega arith; boundary = there.1; char = get_or bs i 0; splits = there.0; fits = parts.1 }
  where
    is_below : (c : ℕ) → nat_lt c 128 ≡ true → c < 128
    is_below c h = grind (arith, nat_tests)

-- what is taken from a place on is what has been taken and what is taken further on
pub record AreTakenSoFar (bs : List ℕ) (i j : ℕ) : Type 0 where
  pub above : i ≤ j
  pub boundary : IsCharBoundary bs j
  pub takes : take_while nb (rest bs i) ≡ between bs i j ++ take_while nb (rest bs j)
  pub leaves : drop_while nb (rest bs i) ≡ drop_while nb (rest bs j)

-- nothing is taken yet
pub take_while_none : (bs : List ℕ) (i : ℕ) → IsCharBoundary bs i → AreTakenSoFar bs i i
take_while_none bs i b = record {
  above = omega arith;
  boundary = b;
  takes = ap (λ x. x ++ take_while nb (rest bs i)) (sym (between-nil bs i));
  leaves = refl;
}

take_while_prefix : (c : ℕ) (cs : List ℕ) → nb c ≡ true
    → (take_while nb (c ∷ cs) ≡ c ∷ take_while nb cs) × (drop_while nb (c ∷ cs) ≡ drop_while nb cs)
take_while_prefix c cs h = (cond-true (nb c) (c ∷ take_while nb cs) [] h, cond-true (nb c) (drop_while nb cs) (c ∷ cs) h)

-- one character more is taken
pub take_while_more : (bs : List ℕ) (i j k : ℕ) → IsUtf8 bs → IsCharBoundary bs i → AreTakenSoFar bs i j → IsNb bs j k
    → AreTakenSoFar bs i k
take_while_more bs i j k u b h n =
    let above = h.above in
    let further = n.above in
    let step = take_while_prefix n.char (rest bs k) n.fits in
    let one : between bs j k ≡ n.char ∷ [] = append_cancel_right (between bs j k) (n.char ∷ []) (rest bs k)
    (sym (rest-between bs j k u (omega arith) h.boundary n.boundary) ∙ n.splits) in
    let joined : between bs i k ≡ between bs i j ++ n.char ∷ [] =
    between-append bs i j k u above (omega arith) b h.boundary n.boundary ∙ ap (λ x. between bs i j ++ x) one in
    record {
      above = omega arith;
      boundary = n.boundary;
      takes = h.takes ∙ ap (λ x. between bs i j ++ x) (ap (take_while nb) n.splits ∙ step.0)
          ∙ sym (append_assoc (between bs i j) (n.char ∷ []) (take_while nb (rest bs k)))
          ∙ ap (λ x. x ++ take_while nb (rest bs k)) (sym joined);
      leaves = h.leaves ∙ ap (drop_while nb) n.splits ∙ step.1;
    }

take_while_stops : (cs : List ℕ) → first nb cs ≡ false → (take_while nb cs ≡ []) × (drop_while nb cs ≡ cs)
take_while_stops [] h = (refl, refl)
take_while_stops (c ∷ cs) h = (cond-false (nb c) (c ∷ take_while nb cs) [] h, cond-false (nb c) (drop_while nb cs) (c ∷ cs) h)

-- all is taken where the next character is not nb
pub take_while_all_at : (bs : List ℕ) (i j : ℕ) → AreTakenSoFar bs i j → first nb (rest bs j) ≡ false → AreTaken nb bs i j
take_while_all_at bs i j h n =
    let stop = take_while_stops (rest bs j) n in
    record {
      above = h.above;
      boundary = h.boundary;
      takes = h.takes ∙ ap (λ x. between bs i j ++ x) stop.0 ∙ append-nil (between bs i j);
      leaves = h.leaves ∙ stop.1;
    }
