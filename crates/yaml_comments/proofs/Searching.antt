-- The search for the comments of a text, scalar after scalar.
use Rattle.std.proofs.Common.{Bor, ◌≡◌, ℕ, ◌<◌, ◌≤◌, max, List, [], ◌∷◌, ◌++◌, length, refl, subst, sym, ◌∙◌, ap, inl, inr, arith, ⊎_elim}
use Rattle.std.{proofs.{Common.{append_assoc, append-nil}, lemmas.Bool.cases_lt}, specs.Prelude.{◌⊎◌, slice_index}}
use Rattle.yaml_grammar.specs.Events.{Event, Style, plain_style, single_style, double_style, literal_style, folded_style, omitted_style}
use Rattle.yaml_grammar.specs.Events.{document_start, document_end, seq_start, seq_end, map_start, map_end, scalar_event}
use Rattle.yaml_events.specs.{Meant.event_ref_of, declared.event.{EventRef.EventRef, Span.Span}}
use Rattle.{yaml_recognizers.specs.Ranges.RangesInOrder, yaml_comments.specs.Outside.{IsComment, IsLineEnd, IsOnHeader, IsOneLine}}
use Rattle.yaml_comments.specs.{Outside.{IsOutside, IsTextStart}, Comments.{Place, IsNext, AreComments, AreInGap, IsGapAdded}}
use Rattle.yaml_events.specs.declared.event.EventRef.TheVariants as ref
use Rattle.yaml_events.specs.declared.event.Style as declared

-- ---- one scalar

-- its text begins within its range
pub text_within : (bytes : List ℕ) (style : Style) (start end at : ℕ) → start ≤ end
    → IsTextStart bytes style start end at → (start ≤ at) × (at ≤ end)
text_within bytes literal_style start end at ordered is = (is.after, is.within)
text_within bytes folded_style start end at ordered is = (is.after, is.within)
text_within bytes plain_style start end at ordered is = (omega arith, omega arith)
text_within bytes single_style start end at ordered is = (omega arith, omega arith)
text_within bytes double_style start end at ordered is = (omega arith, omega arith)
text_within bytes omitted_style start end at ordered is = (omega arith, omega arith)

-- a line is one up to each place before its end
one_line_to : (bytes : List ℕ) (from to at : ℕ) → at ≤ to → IsOneLine bytes from to → IsOneLine bytes from at
one_line_to bytes from to at le line = λ k after before. line k after (omega arith)

-- a place before the text is before the scalar or on its header
pub before_text : (bytes : List ℕ) (style : Style) (start end text at : ℕ) → IsTextStart bytes style start end text → at < text
    → (at < start) ⊎ (end ≤ at) ⊎ IsOnHeader bytes style start at
before_text bytes literal_style start end text at is before = inr (inr (one_line_to bytes start text at (omega arith) is.one_line))
before_text bytes folded_style start end text at is before = inr (inr (one_line_to bytes start text at (omega arith) is.one_line))
before_text bytes plain_style start end text at is before = inl (omega arith)
before_text bytes single_style start end text at is before = inl (omega arith)
before_text bytes double_style start end text at is before = inl (omega arith)
before_text bytes omitted_style start end text at is before = inl (omega arith)

-- no `#` is on the header of a block scalar from the end of its line on
header_ended : (bytes : List ℕ) (start end text at : ℕ) → IsLineEnd bytes start end text → text ≤ at → at < end → slice_index bytes at ≡ 35
    → IsOneLine bytes start at → ⊥
header_ended bytes start end text at is after within mark line =
    let break : (slice_index bytes text ≡ 10) ⊎ (slice_index bytes text ≡ 13) = is.ends (omega arith) in
    ⊎_elim
    (λ passed. (let none = line text is.after passed in ⊎_elim none.0 none.1 break))
    (λ reached. (let same : text ≡ at = omega arith in
    let here = subst (λ k. slice_index bytes k ≡ 35) (sym same) mark in ⊎_elim (λ lf. omega arith) (λ cr. omega arith) break))
    (cases_lt text at)

-- a `#` that is no part of the scalar, and not before its text, is behind it
pub behind_scalar : (bytes : List ℕ) (style : Style) (start end text at : ℕ) → start ≤ end
    → IsTextStart bytes style start end text → text ≤ at
    → slice_index bytes at ≡ 35 → (at < start) ⊎ (end ≤ at) ⊎ IsOnHeader bytes style start at → end ≤ at
behind_scalar bytes style start end text at ordered is after mark (inl before) =
    let within = text_within bytes style start end text ordered is in omega (arith, within.0)
behind_scalar bytes style start end text at ordered is after mark (inr (inl behind)) = behind
behind_scalar bytes literal_style start end text at ordered is after mark (inr (inr line)) =
    ⊎_elim (λ inside. absurd (header_ended bytes start end text at is after inside mark line)) (λ behind. behind) (cases_lt at end)
behind_scalar bytes folded_style start end text at ordered is after mark (inr (inr line)) =
    ⊎_elim (λ inside. absurd (header_ended bytes start end text at is after inside mark line)) (λ behind. behind) (cases_lt at end)
behind_scalar bytes plain_style start end text at ordered is after mark (inr (inr none)) = absurd none
behind_scalar bytes single_style start end text at ordered is after mark (inr (inr none)) = absurd none
behind_scalar bytes double_style start end text at ordered is after mark (inr (inr none)) = absurd none
behind_scalar bytes omitted_style start end text at ordered is after mark (inr (inr none)) = absurd none

-- ---- the scalars after a place

-- ranges in order end where they may
pub ranges_end : (from : ℕ) (es : List Event) (to : ℕ) → RangesInOrder from es to → from ≤ to
ranges_end from [] to ordered = ordered
ranges_end from (document_start ∷ es) to ordered = ranges_end from es to ordered
ranges_end from (document_end ∷ es) to ordered = ranges_end from es to ordered
ranges_end from (seq_start ∷ es) to ordered = ranges_end from es to ordered
ranges_end from (seq_end ∷ es) to ordered = ranges_end from es to ordered
ranges_end from (map_start ∷ es) to ordered = ranges_end from es to ordered
ranges_end from (map_end ∷ es) to ordered = ranges_end from es to ordered
ranges_end from (scalar_event style start end value ∷ es) to ordered =
    let rest : end ≤ to = ranges_end end es to ordered.2 in omega (arith, ordered.0, ordered.1)

-- a place before ranges in order is outside of them
before_ranges : (bytes : List ℕ) (at from : ℕ) (es : List Event) (to : ℕ) → at < from → RangesInOrder from es to → IsOutside bytes at es
before_ranges bytes at from [] to before ordered = tt
before_ranges bytes at from (document_start ∷ es) to before ordered = before_ranges bytes at from es to before ordered
before_ranges bytes at from (document_end ∷ es) to before ordered = before_ranges bytes at from es to before ordered
before_ranges bytes at from (seq_start ∷ es) to before ordered = before_ranges bytes at from es to before ordered
before_ranges bytes at from (seq_end ∷ es) to before ordered = before_ranges bytes at from es to before ordered
before_ranges bytes at from (map_start ∷ es) to before ordered = before_ranges bytes at from es to before ordered
before_ranges bytes at from (map_end ∷ es) to before ordered = before_ranges bytes at from es to before ordered
before_ranges bytes at from (scalar_event style start end value ∷ es) to before ordered =
    (inl (omega (arith, ordered.0)), before_ranges bytes at end es to (omega (arith, ordered.0, ordered.1)) ordered.2)

-- ---- a gap

-- the comments of a gap, and then those behind it, are all from its start on
gap_told : (bytes : List ℕ) (all : List Event) (from text to : ℕ) (gs : List Place) (next : ℕ) (qs : List Place)
    → AreInGap bytes from text gs next
    → ((k : ℕ) → from ≤ k → k < text → slice_index bytes k ≡ 35 → IsComment bytes all k)
    → ((k : ℕ) → text ≤ k → next ≤ k → k < to → IsComment bytes all k → ⊥) → next ≤ to
    → AreComments bytes all to qs → AreComments bytes all from (gs ++ qs)
gap_told bytes all from text to [] next [] gap marks none l are = λ at after comment.
    ⊎_elim (λ inside. gap.0 at after inside comment.mark)
    (λ behind. ⊎_elim (λ before. none at behind (omega (arith, gap.1)) before comment) (λ past. are at past comment) (cases_lt at to))
    (cases_lt at text)
gap_told bytes all from text to [] next (q ∷ qs) gap marks none l are =
    let n : IsNext bytes all to q = are.0 in (
      record {
        after = omega (arith, gap.1, n.after);
        comment = n.comment;
        first = λ at after comment. ⊎_elim (λ inside. absurd (gap.0 at after inside comment.mark))
            (λ behind. ⊎_elim (λ before. absurd (none at behind (omega (arith, gap.1)) before comment))
            (λ past. n.first at past comment) (cases_lt at to)) (cases_lt at text);
        ends = n.ends;
      },
      are.1,
    )
gap_told bytes all from text to (g ∷ gs) next qs gap marks none l are =
    let ends : IsLineEnd bytes g.start (length bytes) g.end = gap.1 in (
      record {
        after = gap.0.0;
        comment = marks g.start gap.0.0 gap.0.1 gap.0.2;
        first = λ at after comment. ⊎_elim (λ before. absurd (gap.0.3 at after before comment.mark)) (λ behind. behind)
            (cases_lt at g.start);
        ends = ends;
      },
      gap_told bytes all g.end text to gs next qs gap.2
          (λ k after before mark. marks k (omega (arith, gap.0.0, ends.after, after)) before mark) none l are,
    )

-- ---- the search

-- The text was searched up to `from`, where these were found. The events that are left say what is outside of all.
pub record Searched (bytes : List ℕ) (all : List Event) (from : ℕ) (rest : List Event) (found : List Place) : Type 0 where
  pub past : ℕ
  pub behind : past ≤ from
  pub ordered : RangesInOrder past rest (length bytes)
  pub within : (at : ℕ) → IsOutside bytes at all → IsOutside bytes at rest
  pub whole : (at : ℕ) → past ≤ at → IsOutside bytes at rest → IsOutside bytes at all
  pub led : (qs : List Place) → AreComments bytes all from qs → AreComments bytes all 0 (found ++ qs)

module _ (bytes : List ℕ) (all : List Event) (from : ℕ) (left : List Event) (found : List Place)
    (searched : Searched bytes all from left found) (style : Style) (start end : ℕ) (value : List ℕ) (more : List Event)
    (split : left ≡ scalar_event style start end value ∷ more) where
  at_scalar : Searched bytes all from (scalar_event style start end value ∷ more) found
  at_scalar = subst (λ es. Searched bytes all from es found) split searched

  -- the scalar is within the text
  pub scalar_ordered : start ≤ end
  scalar_ordered = at_scalar.ordered.1

  pub scalar_within : end ≤ length bytes
  scalar_within = ranges_end end more (length bytes) at_scalar.ordered.2

  -- what was found before the text of the scalar; the search goes on behind it
  pub scalar_searched : (text : ℕ) → IsTextStart bytes style start end text → (now : List Place) (next : ℕ)
      → IsGapAdded bytes from text found now next → (to : ℕ) → to ≡ max next end → Searched bytes all to more now
  scalar_searched text is now next gap to e =
      let s : Searched bytes all from (scalar_event style start end value ∷ more) found = at_scalar in
      let within : (start ≤ text) × (text ≤ end) = text_within bytes style start end text scalar_ordered is in
      record {
        past = end;
        behind = omega (arith, e);
        ordered = s.ordered.2;
        within = λ at outside. (s.within at outside).1;
        whole = λ at after outside. s.whole at (omega (arith, s.ordered.0, scalar_ordered)) (inr (inl after), outside);
        led = λ qs are. subst (AreComments bytes all 0) (sym (append_assoc found gap.added qs) ∙ ap (λ ps. ps ++ qs) (sym gap.joined))
            (s.led (gap.added ++ qs) (gap_told bytes all from text to gap.added next qs gap.are
            (λ k after before mark. record {
              within = omega (arith, within.1, scalar_within);
              mark = mark;
              outside = s.whole k (omega (arith, s.behind)) (
                before_text bytes style start end text k is before,
                before_ranges bytes k end more (length bytes) (omega (arith, within.1)) s.ordered.2,
              );
            })
            (λ k after behind before comment.
            let past : end ≤ k = behind_scalar bytes style start end text k scalar_ordered is after comment.mark
            (s.within k comment.outside).0 in omega (arith, e, past))
            (omega (arith, e)) are));
      }

-- an event that is no scalar has no range
pub other_searched : (bytes : List ℕ) (all : List Event) (from : ℕ) (left more : List Event) (found : List Place) (event : EventRef)
    → ((style : declared.Style) (span : Span) (value : Bor (List ℕ)) → event ≡ ref.Scalar style span value → ⊥)
    → left ≡ event_ref_of event ∷ more → Searched bytes all from left found → Searched bytes all from more found
other_searched bytes all from left more found ref.DocStart other split searched =
    let s : Searched bytes all from (document_start ∷ more) found = subst (λ es. Searched bytes all from es found) split searched in
    record { past = s.past; behind = s.behind; ordered = s.ordered; within = s.within; whole = s.whole; led = s.led }
other_searched bytes all from left more found ref.DocEnd other split searched =
    let s : Searched bytes all from (document_end ∷ more) found = subst (λ es. Searched bytes all from es found) split searched in
    record { past = s.past; behind = s.behind; ordered = s.ordered; within = s.within; whole = s.whole; led = s.led }
other_searched bytes all from left more found ref.SeqStart other split searched =
    let s : Searched bytes all from (seq_start ∷ more) found = subst (λ es. Searched bytes all from es found) split searched in
    record { past = s.past; behind = s.behind; ordered = s.ordered; within = s.within; whole = s.whole; led = s.led }
other_searched bytes all from left more found ref.SeqEnd other split searched =
    let s : Searched bytes all from (seq_end ∷ more) found = subst (λ es. Searched bytes all from es found) split searched in
    record { past = s.past; behind = s.behind; ordered = s.ordered; within = s.within; whole = s.whole; led = s.led }
other_searched bytes all from left more found ref.MapStart other split searched =
    let s : Searched bytes all from (map_start ∷ more) found = subst (λ es. Searched bytes all from es found) split searched in
    record { past = s.past; behind = s.behind; ordered = s.ordered; within = s.within; whole = s.whole; led = s.led }
other_searched bytes all from left more found ref.MapEnd other split searched =
    let s : Searched bytes all from (map_end ∷ more) found = subst (λ es. Searched bytes all from es found) split searched in
    record { past = s.past; behind = s.behind; ordered = s.ordered; within = s.within; whole = s.whole; led = s.led }
other_searched bytes all from left more found (ref.Scalar style span value) other split searched = absurd (other style span value refl)

-- behind the last scalar
pub all_searched : (bytes : List ℕ) (all : List Event) (from : ℕ) (rest : List Event) (found now : List Place) (next : ℕ) → rest ≡ []
    → Searched bytes all from rest found → IsGapAdded bytes from (length bytes) found now next → AreComments bytes all 0 now
all_searched bytes all from rest found now next ended s gap =
    let to : ℕ = max next (length bytes) in
    subst (AreComments bytes all 0) (ap (λ ps. found ++ ps) (append-nil gap.added) ∙ sym gap.joined)
    (s.led (gap.added ++ []) (gap_told bytes all from (length bytes) to gap.added next [] gap.are
    (λ k after before mark. record {
      within = before;
      mark = mark;
      outside = s.whole k (omega (arith, s.behind)) (subst (λ es. IsOutside bytes k es) (sym ended) tt);
    })
    (λ k after behind before comment. omega (arith, comment.within)) (omega arith)
    (λ at after comment. omega (arith, comment.within))))
