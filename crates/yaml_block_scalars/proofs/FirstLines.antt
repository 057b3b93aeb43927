-- The first line of a block scalar, by what is at its places.
use Rattle.std.proofs.Common.{◌≡◌, ℕ, ◌+◌, ◌-◌, ◌<◌, ◌≤◌, ◌⊎◌, Bool, true, false, List, [], ◌∷◌, Option, Some, None, refl, ap, sym, ◌∙◌}
use Rattle.std.{proofs.Common.{arith, length, inl, inr, get_or}, specs.{Prelude.{◌||◌, ◌==◌, cond, IfNone, IfSome}, Char.len_utf8}}
use Rattle.yaml_block_scalars.proofs.Prelude.{IsUtf8, IsCharBoundary, and_from, cond-true, cond-false, le-leb, false≢true, nat_tests}
use Rattle.yaml_block_scalars.proofs.Prelude.{in_range, rest, char_at, rest-end, IsBlind, Chomping, strip, clip, keep, Header, LineEnd}
use Rattle.yaml_block_scalars.proofs.Prelude.{first, header_is, no_header, IsHeader, NoHeader, read_digit, read_mark, after_digit}
use Rattle.yaml_block_scalars.proofs.Prelude.{read_header, read_header_end, read_line_end, Read, on, IsLineEnd, ascii_prefix, first_at_end}
use Rattle.yaml_block_scalars.{proofs.Prelude.first_there, specs.HeaderPlaces.{AreSigns, IsDigit, IsHeaderEnd, IsMark}}

-- ---- the digit

digit_char : ℕ → Bool
digit_char c = in_range 49 57 c

blind-digit : IsBlind digit_char
unfolding digit_char
blind-digit c h l = grind (arith, nat_tests)

no_digit : (text : List ℕ) → first digit_char text ≡ false → read_digit text ≡ (None, text)
unfolding digit_char
no_digit [] h = refl
no_digit (c ∷ cs) h = cond-false (in_range 49 57 c) (Some (c - 48), cs) (None, c ∷ cs) h

digit_missing : (bs : List ℕ) (i : ℕ) → IsCharBoundary bs i → first digit_char (rest bs i) ≡ false → IsDigit bs i None i
digit_missing bs i b h = record { above = omega arith; boundary = b; reads = no_digit (rest bs i) h; fits = refl }

-- at the end there is no digit
pub digit_at_end : (bs : List ℕ) (i : ℕ) → IsCharBoundary bs i → length bs ≤ i → IsDigit bs i None i
digit_at_end bs i b l = digit_missing bs i b (first_at_end digit_char bs i l)

-- nor at a byte below `1`
pub digit_below : (bs : List ℕ) (i : ℕ) → IsUtf8 bs → IsCharBoundary bs i → i < length bs → get_or bs i 0 < 49 → IsDigit bs i None i
unfolding digit_char
digit_below bs i u b l h = digit_missing bs i b (first_there digit_char bs i blind-digit u b l ∙ grind (arith, nat_tests))

-- nor at a byte above `9`
pub digit_above : (bs : List ℕ) (i : ℕ) → IsUtf8 bs → IsCharBoundary bs i → i < length bs → 57 < get_or bs i 0 → IsDigit bs i None i
unfolding digit_char
digit_above bs i u b l h = digit_missing bs i b (first_there digit_char bs i blind-digit u b l ∙ grind (arith, nat_tests))

-- any other byte is a digit
pub digit_there : (bs : List ℕ) (i d : ℕ) → IsUtf8 bs → i < length bs → get_or bs i 0 ≡ d → 49 ≤ d → d ≤ 57
    → IsDigit bs i (Some (d - 48)) (i + 1)
digit_there bs i d u l e low high =
    let there = ascii_prefix bs i d u l (omega arith) e in
    let test : in_range 49 57 d ≡ true = and_from _ _ (le-leb 49 d low) (le-leb d 57 high) in
    record {
      above = omega arith;
      boundary = there.1;
      reads = ap read_digit there.0 ∙ cond-true (in_range 49 57 d) (Some (d - 48), rest bs (i + 1)) (None, d ∷ rest bs (i + 1)) test;
      fits = and_from _ _ (le-leb 1 (d - 48) (omega arith)) (le-leb (d - 48) 9 (omega arith));
    }

-- ---- the chomping mark

no_mark : (text : List ℕ) → first (λ c. (c == 45) || (c == 43)) text ≡ false → read_mark text ≡ (clip, text)
no_mark [] h = refl
no_mark (c ∷ cs) h = neither (c == 45) (c == 43) h
  where
    neither : (m p : Bool) → m || p ≡ false → ◌≡◌ {A = Chomping × List ℕ}
        (cond m (strip, cs) (cond p (keep, cs) (clip, c ∷ cs))) (clip, c ∷ cs)
    neither true p h = absurd (false≢true (sym h))
    neither false true h = absurd (false≢true (sym h))
    neither false false h = refl

blind-mark : IsBlind (λ c. (c == 45) || (c == 43))
blind-mark c h l = grind (arith, nat_tests)

-- at the end there is no mark
pub mark_at_end : (bs : List ℕ) (i : ℕ) → IsCharBoundary bs i → length bs ≤ i → IsMark bs i clip i
mark_at_end bs i b l = record {
  above = omega arith;
  boundary = b;
  reads = no_mark (rest bs i) (first_at_end (λ c. (c == 45) || (c == 43)) bs i l);
}

-- nor at a byte other than `-` and `+`
pub mark_missing : (bs : List ℕ) (i : ℕ) → IsUtf8 bs → IsCharBoundary bs i → i < length bs → (get_or bs i 0 ≡ 45 → ⊥)
    → (get_or bs i 0 ≡ 43 → ⊥) → IsMark bs i clip i
mark_missing bs i u b l m p =
    record {
      above = omega arith;
      boundary = b;
      reads = no_mark (rest bs i) (first_there (λ c. (c == 45) || (c == 43)) bs i blind-mark u b l ∙ grind (arith, nat_tests));
    }

-- `-` is strip
pub mark_strip : (bs : List ℕ) (i : ℕ) → IsUtf8 bs → i < length bs → get_or bs i 0 ≡ 45 → IsMark bs i strip (i + 1)
mark_strip bs i u l e = let there = ascii_prefix bs i 45 u l (omega arith) e in
    record { above = omega arith; boundary = there.1; reads = ap read_mark there.0 }

-- `+` is keep
pub mark_keep : (bs : List ℕ) (i : ℕ) → IsUtf8 bs → i < length bs → get_or bs i 0 ≡ 43 → IsMark bs i keep (i + 1)
mark_keep bs i u l e = let there = ascii_prefix bs i 43 u l (omega arith) e in
    record { above = omega arith; boundary = there.1; reads = ap read_mark there.0 }

-- ---- the end of the line

-- the header's line may end with the text
pub header_end_at_end : (bs : List ℕ) (i : ℕ) → IsCharBoundary bs i → length bs ≤ i → IsHeaderEnd bs i i
header_end_at_end bs i b l = record {
  above = omega arith;
  boundary = b;
  line_end = record { blank = []; comment = None; stop = None };
  reads = ap read_header_end (rest-end bs i l)
      ∙ ap (λ (t : List ℕ). Some (record { blank = []; comment = None; stop = None }, t)) (sym (rest-end bs i l));
  starts = inr (rest-end bs i l);
}

line_end_read : (text : List ℕ) → (text ≡ [] → ⊥) → read_header_end text ≡ read_line_end false text
line_end_read [] n = absurd (n refl)
line_end_read (c ∷ cs) n = refl

-- where the text does not end, it is the end of any line
line_end_there : (bs : List ℕ) (i : ℕ) → IsUtf8 bs → IsCharBoundary bs i → i < length bs
    → read_header_end (rest bs i) ≡ read_line_end false (rest bs i)
line_end_there bs i u b l = line_end_read (rest bs i)
    (λ e. let there = char_at bs i u b l in let none : [] ≡ there.0 ∷ rest bs (i + len_utf8 there.0) = sym e
    ∙ there.1.splits in cc)

pub header_end_found : (bs : List ℕ) (i : ℕ) (found : Option ℕ) → IsUtf8 bs → IsCharBoundary bs i → i < length bs
    → IfSome found (IsLineEnd false bs i) → IfSome found (IsHeaderEnd bs i)
header_end_found bs i None u b l some = tt
header_end_found bs i (Some end) u b l some =
    record {
      above = let above = some.above in omega arith;
      boundary = some.boundary;
      line_end = some.line_end;
      reads = line_end_there bs i u b l ∙ some.reads;
      starts = some.starts;
    }

pub header_end_missing : (bs : List ℕ) (i : ℕ) (found : Option ℕ) → IsUtf8 bs → IsCharBoundary bs i → i < length bs
    → IfNone found (read_line_end false (rest bs i) ≡ None) → IfNone found (read_header_end (rest bs i) ≡ None)
header_end_missing bs i None u b l none = line_end_there bs i u b l ∙ none
header_end_missing bs i (Some end) u b l none = tt

-- ---- the whole line

sign_read : (c : ℕ) (cs : List ℕ) → (c ≡ 124) ⊎ (c ≡ 62) → read_header (c ∷ cs) ≡ after_digit (c == 62) (read_digit cs)
sign_read c cs (inl e) = rw e refl
sign_read c cs (inr e) = rw e refl

sign_at : (bs : List ℕ) (i c : ℕ) → IsUtf8 bs → i < length bs → get_or bs i 0 ≡ c → (c ≡ 124) ⊎ (c ≡ 62)
    → read_header (rest bs i) ≡ after_digit (c == 62) (read_digit (rest bs (i + 1)))
sign_at bs i c u l e s =
    let low : c < 128 = elim s [ inl x ↦ omega arith | inr x ↦ omega arith ] in
    ap read_header (ascii_prefix bs i c u l low e).0 ∙ sign_read c (rest bs (i + 1)) s

-- a header is `|` or `>`, its signs and the end of its line
pub header_there : (bs : List ℕ) (i j k c : ℕ) (digit : Option ℕ) (chomping : Chomping) → IsUtf8 bs → i < length bs
    → get_or bs i 0 ≡ c → (c ≡ 124) ⊎ (c ≡ 62)
    → AreSigns bs (i + 1) digit chomping j → IsHeaderEnd bs j k → IsHeader (rest bs i) (c == 62) digit chomping (rest bs k)
header_there bs i j k c digit chomping u l e s h g =
    let header : Header = record { folded = c == 62; digit = digit; chomping = chomping; digit_last = h.last; line_end = g.line_end } in
    header_is (rest bs i) header (rest bs k) (sign_at bs i c u l e s ∙ h.reads (c == 62)
    ∙ ap (λ (r : Read LineEnd). on r (λ x t. Some
    (record { folded = c == 62; digit = digit; chomping = chomping; digit_last = h.last; line_end = x }, t))) g.reads)

-- if the line goes on there is no header
pub header_open : (bs : List ℕ) (i j c : ℕ) (digit : Option ℕ) (chomping : Chomping) → IsUtf8 bs → i < length bs
    → get_or bs i 0 ≡ c → (c ≡ 124) ⊎ (c ≡ 62)
    → AreSigns bs (i + 1) digit chomping j → read_header_end (rest bs j) ≡ None → NoHeader (rest bs i)
header_open bs i j c digit chomping u l e s h g =
    no_header (rest bs i) (sign_at bs i c u l e s ∙ h.reads (c == 62)
    ∙ ap (λ (r : Read LineEnd). on r (λ x t. Some
    (record { folded = c == 62; digit = digit; chomping = chomping; digit_last = h.last; line_end = x }, t))) g)

-- at the end there is none
pub header_at_end : (bs : List ℕ) (i : ℕ) → length bs ≤ i → NoHeader (rest bs i)
header_at_end bs i l = no_header (rest bs i) (ap read_header (rest-end bs i l))

unsigned : (text : List ℕ) → first (λ c. (c == 62) || (c == 124)) text ≡ false → read_header text ≡ None
unsigned [] h = refl
unsigned (c ∷ cs) h = neither (c == 62) (c == 124) h
  where
    neither : (f l : Bool) → f || l ≡ false → cond f (after_digit true (read_digit cs))
        (cond l (after_digit false (read_digit cs)) None) ≡ None
    neither true l h = absurd (false≢true (sym h))
    neither false true h = absurd (false≢true (sym h))
    neither false false h = refl

blind-sign : IsBlind (λ c. (c == 62) || (c == 124))
blind-sign c h l = grind (arith, nat_tests)

-- nor without `|` or `>`
pub header_unsigned : (bs : List ℕ) (i : ℕ) → IsUtf8 bs → IsCharBoundary bs i → i < length bs
    → (get_or bs i 0 ≡ 124 → ⊥) → (get_or bs i 0 ≡ 62 → ⊥) → NoHeader (rest bs i)
header_unsigned bs i u b l x y =
    no_header (rest bs i) (unsigned (rest bs i)
    (first_there (λ c. (c == 62) || (c == 124)) bs i blind-sign u b l ∙ grind (arith, nat_tests)))
