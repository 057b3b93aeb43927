-- The line after a block scalar: the comments that belong to it are those that the scanner passes.
use Rattle.std.{proofs.Common.{ap, arith, inl, inr, refl, subst, sym, ◌<◌, ◌∙◌, ◌≡◌}, specs.Prelude.{Bool, List, None, Some, [], false}}
use Rattle.std.specs.Prelude.{if◌then◌else◌, is_some, nat_lt, true, ℕ, ◌&&◌, ◌∷◌}
use Rattle.yaml_block.proofs.Prelude.{IsCharBoundary, and_from, and_left, and_parts, and_right, cases_eq, cases_lt, eq-eqb, eqb-true}
use Rattle.yaml_block.proofs.Prelude.{false≢true, lt-ltb, not_from_false, nb, rest, goes_on, past_spaces, spaces_before, LineEnd, first}
use Rattle.yaml_block.proofs.Prelude.{marker, no_marker, read_trail, trail_here, hash, is_line_end, all_comments, read_line_end, Read}
use Rattle.yaml_block.proofs.Prelude.{marker_first, Ended, ended_parts, none_spaced, spaced_unmarked, no_line, no_line_end, IsLineStart}
use Rattle.{yaml_block.{proofs.Prelude.{IsSolidLine, AreSpaces}, specs.Bodies.IsAfterScalar}, yaml_scan.specs.declared.lines.Line.Line}

-- ---- a line of white space or a comment

-- a comment line starts where the end of a line is read
pub line_end_read : (text : List ℕ) → is_line_end text ≡ is_some (read_line_end true text)
line_end_read text = by_cases (is_line_end text) (read_line_end true text) refl refl
  where
    by_cases : (b : Bool) (r : Read LineEnd) → is_line_end text ≡ b → read_line_end true text ≡ r
        → is_line_end text ≡ is_some (read_line_end true text)
    by_cases false r e q = e ∙ sym (ap is_some (no_line true text e))
    by_cases true None e q = absurd (false≢true (sym (no_line_end text q) ∙ e))
    by_cases true (Some l) e q = e ∙ sym (ap is_some q)

-- ---- the comments after a scalar

hash_nb : (text : List ℕ) → first hash text ≡ true → first nb text ≡ true
hash_nb [] h = absurd (false≢true h)
hash_nb (c ∷ cs) h = ap nb (eqb-true c 35 h)

hash_unmarked : (text : List ℕ) → first hash text ≡ true → marker text ≡ false
hash_unmarked [] h = absurd (false≢true h)
hash_unmarked (c ∷ cs) h = subst (λ (x : ℕ). marker (x ∷ cs) ≡ false) (sym (eqb-true c 35 h))
    (marker_first 35 cs refl refl)

unmarked : (text : List ℕ) → first hash (past_spaces text) ≡ true → no_marker true text ≡ true
unmarked text h = elim (cases_eq (spaces_before text) 0) [
  | inl e ↦ (let u : past_spaces text ≡ text = none_spaced text e in not_from_false (marker text)
      (hash_unmarked text (ap (first hash) (sym u) ∙ h)))
  | inr n ↦ spaced_unmarked text (omega (arith, n))
]

-- a comment line that stops the text lines has fewer spaces than these
stopped_before : (q : ℕ) (text : List ℕ) → goes_on q text ≡ false → first hash (past_spaces text) ≡ true
    → spaces_before text < q
stopped_before q text g h =
    let e : Ended q text = ended_parts q text g in
    elim (cases_lt (spaces_before text) q) [
      | inl l ↦ l
      | inr l ↦ elim (cases_eq (spaces_before text) q) [
        | inl i ↦ absurd (false≢true (sym e.no_text
            ∙ and_from _ _ (and_from _ _ (eq-eqb (spaces_before text) q i) (hash_nb (past_spaces text) h))
            (unmarked text h)))
        | inr n ↦ absurd (false≢true (sym e.narrow ∙ lt-ltb q (spaces_before text) (omega (arith, l, n))))
      ]
    ]

-- the comments after a scalar are those that the scanner passes
pub trail_is : (q : ℕ) (text : List ℕ) → goes_on q text ≡ false
    → first hash (past_spaces text) && is_line_end text ≡ true → read_trail q text ≡ all_comments true text
trail_is q text g h =
    let p : (first hash (past_spaces text) ≡ true) × (is_line_end text ≡ true) = and_parts _ _ h in
    let l : nat_lt (spaces_before text) q ≡ true = lt-ltb (spaces_before text) q (stopped_before q text g p.0) in
    choose l p.0 p.1 (all_comments true text)
  where
    choose : nat_lt (spaces_before text) q ≡ true → first hash (past_spaces text) ≡ true → is_line_end text ≡ true
        → (r : List LineEnd × List ℕ) → (if trail_here q text then r else ([], text)) ≡ r
    choose l c e r = rw (l, c, e) refl

-- without a comment line there are none
pub no_trail : (q : ℕ) (text : List ℕ) → first hash (past_spaces text) && is_line_end text ≡ false
    → read_trail q text ≡ ([], text)
no_trail q text h = choose (nothing (nat_lt (spaces_before text) q) (first hash (past_spaces text)) (is_line_end text)
    h) (all_comments true text)
  where
    nothing : (a b c : Bool) → b && c ≡ false → a && b && c ≡ false
    nothing true b c h = h
    nothing false b c h = refl

    choose : trail_here q text ≡ false → (r : List LineEnd × List ℕ)
        → (if trail_here q text then r else ([], text)) ≡ ([], text)
    choose e r = rw e refl

-- ---- the line after a block scalar

-- a comment line, which belongs to the scalar with all lines of comments after it
pub after_comment : (text : List ℕ) (at spaces : ℕ) (line : Line) (r : Read LineEnd) → AreSpaces text at spaces
    → first hash (rest text spaces) ≡ true → read_line_end true (rest text at) ≡ r → is_some r ≡ true
    → IsLineStart text at → IsSolidLine true text at line → (IsLineStart text at → IsLineStart text line.start)
    → IsAfterScalar text at (record { line = line; is_solid = true })
after_comment text at spaces line r s h e o b l starts =
    let here : first hash (past_spaces (rest text at)) && is_line_end (rest text at) ≡ true =
    and_from _ _ (ap (first hash) s.leaves ∙ h) (line_end_read (rest text at) ∙ (ap is_some e ∙ o)) in
    record {
      above = l.above;
      next = record {
        line = record { boundary = l.boundary; spaces = l.spaces; starts = starts b };
        solid =
            l.solid;
      };
      trail = λ q g. ap (λ (t : List LineEnd × List ℕ). t.1) (trail_is q (rest text at) g here) ∙ l.leaves;
    }

-- no line of white space or a comment
pub after_no_comment : (text : List ℕ) (at spaces : ℕ) → AreSpaces text at spaces
    → read_line_end true (rest text at) ≡ None → IsCharBoundary text at → IsLineStart text at
    → IsAfterScalar text at (record { line = record { start = at; first = spaces }; is_solid = true })
after_no_comment text at spaces s e b l =
    let solid : is_line_end (rest text at) ≡ false = line_end_read (rest text at) ∙ ap is_some e in
    record {
      above = omega arith;
      next = record { line = record { boundary = b; spaces = s; starts = l }; solid = solid };
      trail = λ q g. ap (λ (t : List LineEnd × List ℕ). t.1) (no_trail q (rest text at) (and_right _ _ solid));
    }

-- a line of white space, or a comment after a TAB
pub after_blank : (text : List ℕ) (at spaces : ℕ) (r : Read LineEnd) → AreSpaces text at spaces
    → first hash (rest text spaces) ≡ false → read_line_end true (rest text at) ≡ r → is_some r ≡ true
    → IsCharBoundary text at → IsLineStart text at
    → IsAfterScalar text at (record { line = record { start = at; first = spaces }; is_solid = false })
after_blank text at spaces r s h e o b l = record {
  above = omega arith;
  next = record {
    line = record { boundary = b; spaces = s; starts = l };
    solid = line_end_read (rest text at)
        ∙ (ap is_some e ∙ o);
  };
  trail = λ q g. ap (λ (t : List LineEnd × List ℕ). t.1)
      (no_trail q (rest text at) (and_left _ _ (ap (first hash) s.leaves ∙ h)));
}
