use Rattle.std.proofs.Common.{◌≡◌, ◌<◌, ◌≤◌, ℕ, Bool, true, false, ap, inl, inr, length, sym, ◌∙◌}
use Rattle.yaml_flow_scalars.proofs.{Prelude.{cases_lt, false≢true, context_of, line_starts, rest-end}, PlainWords.letter_begins_at}
use Rattle.yaml_flow_scalars.specs.PlainPlaces.{begins_plain}
use Rattle.yaml_flow_scalars.proofs.plain_scalar.first_end.Goals as goal

ended : (at end : ℕ) → (at < end → ◌≡◌ {A = Bool} false true) → end ≤ at
ended at end h = elim (cases_lt at end) [ inl l ↦ absurd (false≢true (h l)) | inr l ↦ l ]

pub returns-then-letter_or_digit_at-clause-found : goal.returns-then-letter_or_digit_at-clause-found
returns-then-letter_or_digit_at-clause-found c =
    letter_begins_at (context_of c.args.context) c.args.text.now c.args.at c.utf8.text c.requires
    (sym c.letter_or_digit_at.ensures ∙ c.if-letter_or_digit_at.true)

pub returns-in_default-clause-none : goal.returns-in_default-clause-none
returns-in_default-clause-none c =
    ap (begins_plain (context_of c.args.context) (line_starts c.args.text.now c.args.at))
    (rest-end c.args.text.now c.args.at (ended c.args.at (length c.args.text.now) c.in_default.ensures.found.1))
