use Rattle.std.proofs.Common.{ap, refl, subst, sym}
use Rattle.yaml_flow.proofs.{Prelude.{chars, context_of, ScalarAt, plain_style}, ScalarKinds.scalar_read}
use Rattle.yaml_flow.proofs.scalar.plain_line_at.Goals as goal

pub returns : goal.returns
returns c =
    let n = c.args.n in
    let d = context_of c.args.c in
    let text = c.args.text.now in
    let at = c.args.at in
    let end = c.in-Some.end in
    scalar_read n d text at plain_style _ refl (subst (λ t. ScalarAt plain_style n d text at t end)
    (ap chars (sym c.range.ensures.value)) c.in-Some.ensures.found)
    c.in-Some.ensures.ends_inside_line (λ _. (tt, c.range.ensures.value)) (λ _. c.in-Some.ensures.unbroken)
