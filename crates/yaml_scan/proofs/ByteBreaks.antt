-- Breaks, by the bytes at a place.
use Rattle.std.proofs.Common.{◌≡◌, ℕ, ◌+◌, ◌<◌, ◌≤◌, true, false, List, [], ◌∷◌, Some, None, refl, ap, sym, ◌∙◌, arith, length, inl, inr}
use Rattle.std.{proofs.Common.get_or, specs.Prelude.◌==◌}
use Rattle.yaml_scan.proofs.Prelude.{IsUtf8, IsCharBoundary, cases_Bool, cond-false, ne_eqb, nat_tests, line_break, rest, len_utf8, char_at}
use Rattle.yaml_scan.proofs.Prelude.{rest-end, IsBlind, blind-line_break, Break, lf, cr, cr_lf, first, read_break, read_cr, read_stop}
use Rattle.yaml_scan.{proofs.ByteRuns.{ascii_prefix, first_at_end, first_there}, specs.ScanPlaces.{IsBreak, IsStop}}
use Rattle.yaml_recognizers.{proofs.Basics.Breaks.unbroken, specs.Reading.{Read, on}}

-- ---- breaks

-- at the end there is no break
pub break_none_at_end : (bs : List ℕ) (i : ℕ) → length bs ≤ i → read_break (rest bs i) ≡ None
break_none_at_end bs i l = ap read_break (rest-end bs i l)

no_break_byte : (b : ℕ) → (b ≡ 10 → ⊥) → (b ≡ 13 → ⊥) → line_break b ≡ false
no_break_byte b f r = grind (arith, nat_tests)

-- a byte that is neither LF nor CR starts no break
pub break_none : (bs : List ℕ) (i : ℕ) → IsUtf8 bs → IsCharBoundary bs i → i < length bs → (get_or bs i 0 ≡ 10 → ⊥)
    → (get_or bs i 0 ≡ 13 → ⊥) → read_break (rest bs i) ≡ None
break_none bs i u b l f r = unbroken (rest bs i) (first_there line_break bs i blind-line_break u b l ∙ no_break_byte (get_or bs i 0) f r)

-- an LF is a break
pub break_lf : (bs : List ℕ) (i : ℕ) → IsUtf8 bs → i < length bs → get_or bs i 0 ≡ 10 → IsBreak bs i (i + 1)
break_lf bs i u l e =
    let there = ascii_prefix bs i 10 u l (omega arith) e in
    record { above = omega arith; boundary = there.1; break = lf; reads = ap read_break there.0 }

cr_alone : (cs : List ℕ) → first (λ c. c == 10) cs ≡ false → read_cr cs ≡ (cr, cs)
cr_alone [] h = refl
cr_alone (c ∷ cs) h = cond-false (c == 10) (cr_lf, cs) (cr, c ∷ cs) h

-- a CR that no LF follows is a break
pub break_cr : (bs : List ℕ) (i : ℕ) → IsUtf8 bs → i < length bs → get_or bs i 0 ≡ 13
    → first (λ c. c == 10) (rest bs (i + 1)) ≡ false → IsBreak bs i (i + 1)
break_cr bs i u l e alone =
    let there = ascii_prefix bs i 13 u l (omega arith) e in
    record {
      above = omega arith;
      boundary = there.1;
      break = cr;
      reads = ap read_break there.0 ∙ ap (λ x. Some x) (cr_alone (rest bs (i + 1)) alone);
    }

blind-feed : IsBlind (λ c. c == 10)
blind-feed c h l = grind (arith, nat_tests)

-- a CR at the end is a break
pub break_cr_end : (bs : List ℕ) (i : ℕ) → IsUtf8 bs → i < length bs → get_or bs i 0 ≡ 13 → length bs ≤ i + 1 → IsBreak bs i (i + 1)
break_cr_end bs i u l e past = break_cr bs i u l e (first_at_end (λ c. c == 10) bs (i + 1) past)

-- a CR before another byte than LF is a break
pub break_cr_other : (bs : List ℕ) (i : ℕ) → IsUtf8 bs → i + 1 < length bs → get_or bs i 0 ≡ 13
    → (get_or bs (i + 1) 0 ≡ 10 → ⊥) → IsBreak bs i (i + 1)
break_cr_other bs i u l e other =
    let there = ascii_prefix bs i 13 u (omega arith) (omega arith) e in
    break_cr bs i u (omega arith) e (first_there (λ c. c == 10) bs (i + 1) blind-feed u there.1 l ∙ ne_eqb (get_or bs (i + 1) 0) 10 other)

-- CR LF is one break
pub break_cr_lf : (bs : List ℕ) (i : ℕ) → IsUtf8 bs → i + 1 < length bs → get_or bs i 0 ≡ 13
    → get_or bs (i + 1) 0 ≡ 10 → IsBreak bs i (i + 1 + 1)
break_cr_lf bs i u l e f =
    let there = ascii_prefix bs i 13 u (omega arith) (omega arith) e in
    let next = ascii_prefix bs (i + 1) 10 u l (omega arith) f in
    record { above = omega arith; boundary = next.1; break = cr_lf; reads = ap read_break (there.0 ∙ ap (λ x. 13 ∷ x) next.0) }

-- ---- a break or the end of the text

stop_by_break : (c : ℕ) (cs : List ℕ) → read_stop (c ∷ cs) ≡ on (read_break (c ∷ cs)) (λ b r. Some (Some b, r))
stop_by_break c cs = elim (cases_Bool (c == 10)) [
  | inl e ↦ rw e refl
  | inr e ↦ elim (cases_Bool (c == 13)) [ inl i ↦ rw (e, i) refl | inr i ↦ rw (e, i) refl ]
]

break_stops : (text : List ℕ) (b : Break) (after : List ℕ) → read_break text ≡ Some (b, after) → read_stop text ≡ Some (Some b, after)
break_stops [] b after e = cc
break_stops (c ∷ cs) b after e = stop_by_break c cs ∙ ap (λ (r : Read Break). on r (λ b r. Some (Some b, r))) e

-- a break is a stop
pub stop_at_break : (bs : List ℕ) (i j : ℕ) → IsBreak bs i j → IsStop bs i true j
stop_at_break bs i j h =
    let above = h.above in
    record {
      above = omega arith;
      boundary = h.boundary;
      stop = Some h.break;
      reads = break_stops (rest bs i) h.break (rest bs j) h.reads;
      is_break = refl;
    }

-- the end of the text is a stop
pub stop_at_end : (bs : List ℕ) (i : ℕ) → IsCharBoundary bs i → length bs ≤ i → IsStop bs i false i
stop_at_end bs i b l =
    let e : rest bs i ≡ [] = rest-end bs i l in
    record { above = omega arith; boundary = b; stop = None; reads = ap read_stop e ∙ ap (λ x. Some (None, x)) (sym e); is_break = refl }

no_stop : (cs : List ℕ) → (cs ≡ [] → ⊥) → read_break cs ≡ None → read_stop cs ≡ None
no_stop [] n e = absurd (n refl)
no_stop (c ∷ cs) n e = stop_by_break c cs ∙ ap (λ (r : Read Break). on r (λ b r. Some (Some b, r))) e

-- without a break before the end there is no stop
pub stop_none : (bs : List ℕ) (i : ℕ) → IsUtf8 bs → IsCharBoundary bs i → i < length bs
    → read_break (rest bs i) ≡ None → read_stop (rest bs i) ≡ None
stop_none bs i u b l e =
    let there = char_at bs i u b l in
    no_stop (rest bs i) (λ z. let none : [] ≡ there.0 ∷ rest bs (i + len_utf8 there.0) = sym z ∙ there.1.splits in cc) e
