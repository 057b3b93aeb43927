use Rattle.std.proofs.Common.{◌≡◌, ◌∙◌, ◌+◌, ◌<◌, ◌≤◌, ℕ, Bool, true, false, arith, inl, inr, length, sym}
use Rattle.yaml_flow_scalars.proofs.{Prelude.{cases_lt, false≢true, len_utf8_bounds, context_of}, PlainPieces.one_piece}
use Rattle.yaml_flow_scalars.{proofs.PlainWords.none_at_end, specs.PlainPlaces.is_content}
use Rattle.yaml_flow_scalars.proofs.plain_scalar.decoded_end.Goals as goal

ended : (at end : ℕ) → (at < end → ◌≡◌ {A = Bool} false true) → end ≤ at
ended at end h = elim (cases_lt at end) [ inl l ↦ absurd (false≢true (h l)) | inr l ↦ l ]

pub returns-in_default-clause-none : goal.returns-in_default-clause-none
returns-in_default-clause-none c =
    none_at_end (context_of c.args.context) (is_content c.args.before) c.args.text.now c.args.at
    (ended c.args.at (length c.args.text.now) c.in_default.ensures.found.1)

pub returns-then-is_plain_next-clause-found : goal.returns-then-is_plain_next-clause-found
returns-then-is_plain_next-clause-found c =
    one_piece (context_of c.args.context) (is_content c.args.before) c.args.text.now c.args.at
    (c.args.at + c.in-Some.len) c.in-Some.character c.utf8.text c.requires
    (omega (arith, c.in-Some.ensures.len, (len_utf8_bounds c.in-Some.character).0)) c.in-Some.ensures.boundary
    c.in-Some.ensures.char (λ before e. sym (c.is_plain_next.ensures before e) ∙ c.if-is_plain_next.true)
