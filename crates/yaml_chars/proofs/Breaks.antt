-- A break in the bytes of a text is one in its characters.
use Rattle.std.proofs.Common.{◌≡◌, ℕ, ◌+◌, ◌-◌, ◌<◌, ◌≤◌, true, List, ◌∷◌, Some, None, ap, sym, ◌∙◌, subst, arith, length, inl, inr, get_or}
use Rattle.std.proofs.{Common.{take, drop, drop-drop, length-drop, slice_range, slice_index, slice_get}, lemmas.Bool.cases_lt}
use Rattle.std.proofs.lemmas.{Bool.{not_from_false, false_from_ne_true}, List.{get_or_default, get_or-take, get_or-drop, length-take}}
use Rattle.std.proofs.lemmas.{List.take_rest, Option.slice_get-get_or, Str.{IsUtf8-drop, IsUtf8-between, IsCharBoundary-before_ascii}}
use Rattle.std.{proofs.lemmas.Str.IsCharBoundary-after_ascii, specs.Str.{IsUtf8, IsCharBoundary, chars}}
use Rattle.yaml_chars.specs.{Classes.line_break, Places.rest, Breaks.{StartsWithBreak, cr_lf, lf, cr, no_break, NoBreak, IsNextBreak}}
use Rattle.yaml_chars.{specs.Breaks.EndsLine, proofs.{Places.{rest-ascii, rest-end, char_at}, Runs.{blind-no_break, AllPass-chars}}}

-- ---- no break

-- bytes without a break are characters without one
pub NoBreak-chars : (bs : List ℕ) → IsUtf8 bs → NoBreak bs → NoBreak (chars bs)
NoBreak-chars bs u h = AllPass-chars no_break bs blind-no_break u h

-- the same from a place on
pub NoBreak-rest : (bs : List ℕ) (at : ℕ) → IsUtf8 bs → IsCharBoundary bs at → NoBreak (drop at bs) → NoBreak (rest bs at)
NoBreak-rest bs at u b h = NoBreak-chars (drop at bs) (IsUtf8-drop bs at u b) h

-- as a search for the bytes of breaks says it
pub no_break_is : (piece : List ℕ) → ((j : ℕ) → 0 ≤ j → j < length piece → line_break (slice_index piece j) ≡ true → ⊥) → NoBreak piece
no_break_is piece h = λ j d l. ap no_break (get_or_default piece j d 0 l) ∙ not_from_false _ (false_from_ne_true _ (h j (omega arith) l))

-- ---- a break

-- an ASCII byte before it, read in the characters
byte_there : (bs ds : List ℕ) (i c : ℕ) → drop i bs ≡ c ∷ ds → (i < length bs) × (get_or bs i 0 ≡ c)
byte_there bs ds i c e =
    let first : get_or (drop i bs) 0 0 ≡ get_or bs i 0 = get_or-drop i bs 0 0
    ∙ ap (λ x. get_or bs x 0) (let z : i + 0 ≡ i = omega arith in z) in
    (omega (arith, length-drop i bs, ap (λ (x : List ℕ). length x) e), sym first ∙ ap (λ (x : List ℕ). get_or x 0 0) e)

-- an ASCII byte of a text is the character there, and the next one starts after it
char_there : (bs ds : List ℕ) (i c : ℕ) → IsUtf8 bs → c < 128 → drop i bs ≡ c ∷ ds
    → (rest bs i ≡ c ∷ rest bs (i + 1)) × IsCharBoundary bs i × IsCharBoundary bs (i + 1) × (drop (i + 1) bs ≡ ds)
char_there bs ds i c u a e =
    let there = byte_there bs ds i c e in
    let byte = there.1 in
    let low : get_or bs i 0 < 128 = omega arith in (
      rest-ascii bs i u there.0 low ∙ ap (λ x. x ∷ rest bs (i + 1)) byte,
      IsCharBoundary-before_ascii bs i there.0 low,
      IsCharBoundary-after_ascii bs i u there.0 low,
      sym (drop-drop 1 i bs) ∙ ap (λ (x : List ℕ). drop 1 x) e,
    )

-- an ASCII character before it is a byte there
first_is_byte : (bs : List ℕ) (i c : ℕ) → IsUtf8 bs → IsCharBoundary bs i → c < 128 → slice_get (rest bs i) 0 ≡ Some c
    → slice_get (drop i bs) 0 ≡ Some c
first_is_byte bs i c u b a e = elim (cases_lt i (length bs)) [
  | inl l ↦ (let there = char_at bs i u b l in
      let prefix : Some there.0 ≡ Some c = sym (ap (λ (x : List ℕ). slice_get x 0) there.1.splits) ∙ e in
      let same : there.0 ≡ c = cc in
      let byte : get_or bs i 0 ≡ c = elim (cases_lt (get_or bs i 0) 128) [
        | inl low ↦ sym (there.1.low low) ∙ same
        | inr high ↦ (let above = there.1.high high in absurd (omega arith))
      ] in
      slice_get-get_or (drop i bs) 0 0 (omega (arith, length-drop i bs))
      ∙ ap (λ x. Some x) (get_or-drop i bs 0 0 ∙ ap (λ x. get_or bs x 0) (let z : i + 0 ≡ i = omega arith in z) ∙ byte))
  | inr past ↦ (let none : None ≡ Some c = sym (ap (λ (x : List ℕ). slice_get x 0) (rest-end bs i past)) ∙ e in cc)
]

-- a break in the bytes, its places, and the break in the characters
pub record IsBreakAt (bs : List ℕ) (i n : ℕ) : Type 0 where
  pub start : IsCharBoundary bs i
  pub end : IsCharBoundary bs (i + n)
  pub break : StartsWithBreak (rest bs i) n (rest bs (i + n))

-- a break in the bytes at a place is one in the characters there
pub break_at : (bs : List ℕ) (i n : ℕ) → IsUtf8 bs → StartsWithBreak (drop i bs) n (drop (i + n) bs) → IsBreakAt bs i n
break_at bs i n u (cr_lf e size) =
    let first = char_there bs (10 ∷ drop (i + n) bs) i 13 u (omega arith) e in
    let second = char_there bs (drop (i + n) bs) (i + 1) 10 u (omega arith) first.3 in
    let end : i + 1 + 1 ≡ i + n = omega arith in
    record {
      start = first.1;
      end = subst (λ x. IsCharBoundary bs x) end second.2;
      break = cr_lf (first.0 ∙ ap (λ x. 13 ∷ x) (second.0 ∙ ap (λ x. 10 ∷ rest bs x) end)) size;
    }
break_at bs i n u (lf e size) =
    let first = char_there bs (drop (i + n) bs) i 10 u (omega arith) e in
    let end : i + 1 ≡ i + n = omega arith in
    record {
      start = first.1;
      end = subst (λ x. IsCharBoundary bs x) end first.2;
      break = lf (first.0 ∙ ap (λ x. 10 ∷ rest bs x) end) size;
    }
break_at bs i n u (cr e alone size) =
    let first = char_there bs (drop (i + n) bs) i 13 u (omega arith) e in
    let end : i + 1 ≡ i + n = omega arith in
    let boundary = subst (λ x. IsCharBoundary bs x) end first.2 in
    record {
      start = first.1;
      end = boundary;
      break = cr (first.0 ∙ ap (λ x. 13 ∷ rest bs x) end) (λ h. alone (first_is_byte bs (i + n) 10 u boundary (omega arith) h)) size;
    }

-- ---- the next break

-- the next break over the bytes ends the line over the characters
pub ends_line : (text : List ℕ) (at start len : ℕ) → IsUtf8 text → IsCharBoundary text at
    → IsNextBreak text at start len → EndsLine text at start len
ends_line text at start len u b h =
    let there = break_at text start len u h.break in
    record {
      end = there.start;
      next = there.end;
      line = NoBreak-chars (slice_range text at start) (IsUtf8-between text at start u h.above b there.start) h.none_before;
      break = there.break;
    }

-- The first byte of a break in the bytes from `at` on is at place k of those, and the break there takes so many bytes.
pub next_break_is : (text piece after : List ℕ) (at k len : ℕ) → piece ≡ drop at text → after ≡ drop (at + k) text
    → ((j : ℕ) → 0 ≤ j → j < k → line_break (slice_index piece j) ≡ true → ⊥)
    → StartsWithBreak after len (drop len after) → IsNextBreak text at (at + k) len
next_break_is text piece after at k len is_piece is_after before stands =
    let size : (at + k) - at ≡ k = omega arith in
    let none : NoBreak (take k piece) = no_break_is (take k piece) (λ j low l is_break.
    (let inside : j < k = omega (arith, length-take k piece) in
    before j low inside (sym (ap line_break (get_or-take k piece j 0 inside)) ∙ is_break))) in
    let later : drop len after ≡ drop (at + k + len) text = ap (drop len) is_after ∙ drop-drop len (at + k) text in
    record {
      above = omega arith;
      none_before = subst NoBreak (ap (take k) is_piece ∙ ap (λ x. take x (drop at text)) (sym size)) none;
      break = subst (λ x. StartsWithBreak x len (drop (at + k + len) text)) is_after
          (subst (λ x. StartsWithBreak after len x) later stands);
    }

-- the bytes of a text from a place on, as a slice of them reads
pub bytes_from : (text bytes : List ℕ) (i : ℕ) → bytes ≡ text → take (length bytes - i) (drop i bytes) ≡ drop i text
bytes_from text bytes i e = take_rest bytes i ∙ ap (drop i) e

-- ---- there is one answer
