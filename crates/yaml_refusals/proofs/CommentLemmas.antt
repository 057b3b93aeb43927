-- The search for a comment, scalar after scalar.
use Rattle.std.proofs.Common.{Bor, ◌≡◌, ℕ, ◌<◌, ◌≤◌, List, [], ◌∷◌, Some, None, length, refl, subst, sym, inl, inr, arith, ⊎_elim}
use Rattle.std.{proofs.lemmas.Bool.cases_lt, specs.Prelude.{◌⊎◌, slice_index, Option}}
use Rattle.yaml_grammar.specs.Events.{Event, Style, plain_style, single_style, double_style, literal_style, folded_style, omitted_style}
use Rattle.yaml_grammar.specs.Events.{document_start, document_end, seq_start, seq_end, map_start, map_end, scalar_event}
use Rattle.yaml_events.specs.{Meant.event_ref_of, declared.event.{EventRef.EventRef, Span.Span}}
use Rattle.{yaml_recognizers.specs.Ranges.RangesInOrder, yaml_refusals.specs.Comments.{HasNoMark, IsComment, IsFirstComment, IsFirstMark}}
use Rattle.yaml_refusals.specs.Comments.{IsLineEnd, IsOnHeader, IsOneLine, IsOutside, IsTextStart}
use Rattle.yaml_events.specs.declared.event.EventRef.TheVariants as ref
use Rattle.yaml_events.specs.declared.event.Style as declared

-- ---- one scalar

-- its text begins within its range
pub text_within : (bytes : List ℕ) (style : Style) (start end at : ℕ) → start ≤ end
    → IsTextStart bytes style start end at → (start ≤ at) × (at ≤ end)
text_within bytes literal_style start end at ordered is = (is.after, is.within)
text_within bytes folded_style start end at ordered is = (is.after, is.within)
text_within bytes plain_style start end at ordered is = (omega arith, omega arith)
text_within bytes single_style start end at ordered is = (omega arith, omega arith)
text_within bytes double_style start end at ordered is = (omega arith, omega arith)
text_within bytes omitted_style start end at ordered is = (omega arith, omega arith)

-- a line is one up to each place before its end
one_line_to : (bytes : List ℕ) (from to at : ℕ) → at ≤ to → IsOneLine bytes from to → IsOneLine bytes from at
one_line_to bytes from to at le line = λ k after before. line k after (omega arith)

-- a place before the text is before the scalar or on its header
pub before_text : (bytes : List ℕ) (style : Style) (start end text at : ℕ) → IsTextStart bytes style start end text → at < text
    → (at < start) ⊎ (end ≤ at) ⊎ IsOnHeader bytes style start at
before_text bytes literal_style start end text at is before = inr (inr (one_line_to bytes start text at (omega arith) is.one_line))
before_text bytes folded_style start end text at is before = inr (inr (one_line_to bytes start text at (omega arith) is.one_line))
before_text bytes plain_style start end text at is before = inl (omega arith)
before_text bytes single_style start end text at is before = inl (omega arith)
before_text bytes double_style start end text at is before = inl (omega arith)
before_text bytes omitted_style start end text at is before = inl (omega arith)

-- no `#` is on the header of a block scalar from the end of its line on
header_ended : (bytes : List ℕ) (start end text at : ℕ) → IsLineEnd bytes start end text → text ≤ at → at < end → slice_index bytes at ≡ 35
    → IsOneLine bytes start at → ⊥
header_ended bytes start end text at is after within mark line =
    let break : (slice_index bytes text ≡ 10) ⊎ (slice_index bytes text ≡ 13) = is.ends (omega arith) in
    ⊎_elim
    (λ passed. (let none = line text is.after passed in ⊎_elim none.0 none.1 break))
    (λ reached. (let same : text ≡ at = omega arith in
    let here = subst (λ k. slice_index bytes k ≡ 35) (sym same) mark in ⊎_elim (λ lf. omega arith) (λ cr. omega arith) break))
    (cases_lt text at)

-- a `#` that is no part of the scalar, and not before its text, is behind it
pub behind_scalar : (bytes : List ℕ) (style : Style) (start end text at : ℕ) → start ≤ end
    → IsTextStart bytes style start end text → text ≤ at
    → slice_index bytes at ≡ 35 → (at < start) ⊎ (end ≤ at) ⊎ IsOnHeader bytes style start at → end ≤ at
behind_scalar bytes style start end text at ordered is after mark (inl before) =
    let within = text_within bytes style start end text ordered is in omega (arith, within.0)
behind_scalar bytes style start end text at ordered is after mark (inr (inl behind)) = behind
behind_scalar bytes literal_style start end text at ordered is after mark (inr (inr line)) =
    ⊎_elim (λ inside. absurd (header_ended bytes start end text at is after inside mark line)) (λ behind. behind) (cases_lt at end)
behind_scalar bytes folded_style start end text at ordered is after mark (inr (inr line)) =
    ⊎_elim (λ inside. absurd (header_ended bytes start end text at is after inside mark line)) (λ behind. behind) (cases_lt at end)
behind_scalar bytes plain_style start end text at ordered is after mark (inr (inr none)) = absurd none
behind_scalar bytes single_style start end text at ordered is after mark (inr (inr none)) = absurd none
behind_scalar bytes double_style start end text at ordered is after mark (inr (inr none)) = absurd none
behind_scalar bytes omitted_style start end text at ordered is after mark (inr (inr none)) = absurd none

-- ---- the scalars after a place

-- ranges in order end where they may
pub ranges_end : (from : ℕ) (es : List Event) (to : ℕ) → RangesInOrder from es to → from ≤ to
ranges_end from [] to ordered = ordered
ranges_end from (document_start ∷ es) to ordered = ranges_end from es to ordered
ranges_end from (document_end ∷ es) to ordered = ranges_end from es to ordered
ranges_end from (seq_start ∷ es) to ordered = ranges_end from es to ordered
ranges_end from (seq_end ∷ es) to ordered = ranges_end from es to ordered
ranges_end from (map_start ∷ es) to ordered = ranges_end from es to ordered
ranges_end from (map_end ∷ es) to ordered = ranges_end from es to ordered
ranges_end from (scalar_event style start end value ∷ es) to ordered =
    let rest : end ≤ to = ranges_end end es to ordered.2 in omega (arith, ordered.0, ordered.1)

-- a place before ranges in order is outside of them
before_ranges : (bytes : List ℕ) (at from : ℕ) (es : List Event) (to : ℕ) → at < from → RangesInOrder from es to → IsOutside bytes at es
before_ranges bytes at from [] to before ordered = tt
before_ranges bytes at from (document_start ∷ es) to before ordered = before_ranges bytes at from es to before ordered
before_ranges bytes at from (document_end ∷ es) to before ordered = before_ranges bytes at from es to before ordered
before_ranges bytes at from (seq_start ∷ es) to before ordered = before_ranges bytes at from es to before ordered
before_ranges bytes at from (seq_end ∷ es) to before ordered = before_ranges bytes at from es to before ordered
before_ranges bytes at from (map_start ∷ es) to before ordered = before_ranges bytes at from es to before ordered
before_ranges bytes at from (map_end ∷ es) to before ordered = before_ranges bytes at from es to before ordered
before_ranges bytes at from (scalar_event style start end value ∷ es) to before ordered =
    (inl (omega (arith, ordered.0)), before_ranges bytes at end es to (omega (arith, ordered.0, ordered.1)) ordered.2)

-- ---- the search

-- No comment is before `from`, and from there on the events that are left say what is outside of all.
pub record Searched (bytes : List ℕ) (all : List Event) (from : ℕ) (rest : List Event) : Type 0 where
  pub ordered : RangesInOrder from rest (length bytes)
  pub past : (at : ℕ) → IsComment bytes all at → from ≤ at
  pub within : (at : ℕ) → IsOutside bytes at all → IsOutside bytes at rest
  pub whole : (at : ℕ) → from ≤ at → IsOutside bytes at rest → IsOutside bytes at all

-- the first `#` in what was not searched is a comment, if it is outside of all, and then the first
found_first : (bytes : List ℕ) (all : List Event) (from to at : ℕ) (rest : List Event) → Searched bytes all from rest
    → IsFirstMark bytes from to (Some at) → at < length bytes → IsOutside bytes at rest → IsFirstComment bytes all (Some at)
found_first bytes all from to at rest searched found within outside = (
  record { within = within; mark = found.2; outside = searched.whole at found.0 outside },
  λ other is. ⊎_elim (λ before. absurd (found.3 other (searched.past other is) before is.mark)) (λ after. after) (cases_lt other at),
)

module _ (bytes : List ℕ) (all : List Event) (from : ℕ) (left : List Event) (searched : Searched bytes all from left)
    (style : Style) (start end : ℕ)
    (value : List ℕ) (more : List Event) (split : left ≡ scalar_event style start end value ∷ more) where
  at_scalar : Searched bytes all from (scalar_event style start end value ∷ more)
  at_scalar = subst (λ es. Searched bytes all from es) split searched

  -- the scalar is within the text
  pub scalar_ordered : start ≤ end
  scalar_ordered = at_scalar.ordered.1

  pub scalar_within : end ≤ length bytes
  scalar_within = ranges_end end more (length bytes) at_scalar.ordered.2

  module _ (text : ℕ) (is : IsTextStart bytes style start end text) where
    -- a `#` before the text of the scalar
    pub found_before : (at : ℕ) → IsFirstMark bytes from text (Some at) → IsFirstComment bytes all (Some at)
    found_before at found =
        let within = text_within bytes style start end text scalar_ordered is in
        let inside : at < end = omega (arith, within.1, found.1) in
        found_first bytes all from text at (scalar_event style start end value ∷ more) at_scalar found (omega (arith, scalar_within))
        (before_text bytes style start end text at is found.1, before_ranges bytes at end more (length bytes) inside at_scalar.ordered.2)

    -- none, so the search goes on behind the scalar
    pub scalar_passed : HasNoMark bytes from text → Searched bytes all end more
    scalar_passed none = record {
      ordered = at_scalar.ordered.2;
      past = λ at comment. behind_scalar bytes style start end text at scalar_ordered is
          (⊎_elim (λ before. absurd (none at (at_scalar.past at comment) before comment.mark)) (λ after. after) (cases_lt at text))
          comment.mark (at_scalar.within at comment.outside).0;
      within = λ at outside. (at_scalar.within at outside).1;
      whole = λ at after outside. at_scalar.whole at
          (let within = text_within bytes style start end text scalar_ordered is in omega (arith, at_scalar.ordered.0))
          (inr (inl after), outside);
    }

-- no `#` was found
pub unmarked : (bytes : List ℕ) (from to : ℕ) (found : Option ℕ) → ((at : ℕ) → found ≡ Some at → ⊥) → IsFirstMark bytes from to found
    → HasNoMark bytes from to
unmarked bytes from to None other is = is
unmarked bytes from to (Some at) other is = absurd (other at refl)

-- an event that is no scalar has no range
pub other_passed : (bytes : List ℕ) (all : List Event) (from : ℕ) (left more : List Event) (event : EventRef)
    → ((style : declared.Style) (span : Span) (value : Bor (List ℕ)) → event ≡ ref.Scalar style span value → ⊥)
    → left ≡ event_ref_of event ∷ more → Searched bytes all from left → Searched bytes all from more
other_passed bytes all from left more ref.DocStart other split searched =
    let s : Searched bytes all from (document_start ∷ more) = subst (λ es. Searched bytes all from es) split searched in
    record { ordered = s.ordered; past = s.past; within = s.within; whole = s.whole }
other_passed bytes all from left more ref.DocEnd other split searched =
    let s : Searched bytes all from (document_end ∷ more) = subst (λ es. Searched bytes all from es) split searched in
    record { ordered = s.ordered; past = s.past; within = s.within; whole = s.whole }
other_passed bytes all from left more ref.SeqStart other split searched =
    let s : Searched bytes all from (seq_start ∷ more) = subst (λ es. Searched bytes all from es) split searched in
    record { ordered = s.ordered; past = s.past; within = s.within; whole = s.whole }
other_passed bytes all from left more ref.SeqEnd other split searched =
    let s : Searched bytes all from (seq_end ∷ more) = subst (λ es. Searched bytes all from es) split searched in
    record { ordered = s.ordered; past = s.past; within = s.within; whole = s.whole }
other_passed bytes all from left more ref.MapStart other split searched =
    let s : Searched bytes all from (map_start ∷ more) = subst (λ es. Searched bytes all from es) split searched in
    record { ordered = s.ordered; past = s.past; within = s.within; whole = s.whole }
other_passed bytes all from left more ref.MapEnd other split searched =
    let s : Searched bytes all from (map_end ∷ more) = subst (λ es. Searched bytes all from es) split searched in
    record { ordered = s.ordered; past = s.past; within = s.within; whole = s.whole }
other_passed bytes all from left more (ref.Scalar style span value) other split searched = absurd (other style span value refl)

-- behind the last scalar
pub searched_all : (bytes : List ℕ) (all : List Event) (from : ℕ) (rest : List Event) (found : Option ℕ) → rest ≡ []
    → Searched bytes all from rest
    → IsFirstMark bytes from (length bytes) found → IsFirstComment bytes all found
searched_all bytes all from rest (Some at) ended searched is =
    found_first bytes all from (length bytes) at rest searched is is.1 (subst (λ es. IsOutside bytes at es) (sym ended) tt)
searched_all bytes all from rest None ended searched none =
    λ other comment. none other (searched.past other comment) comment.within comment.mark
