-- The rest's bytes end the text's.
use Rattle.std.proofs.Common.{◌≡◌, ◌-◌, ◌++◌, length, take, ap, sym, ◌∙◌, arith}
use Rattle.yaml_style.proofs.{Prelude.chars, ComparingLemmas.ends_with}
use Rattle.yaml_style.proofs.findings.before.Goals as goal

pub overflow_sub-text : goal.overflow_sub-text
overflow_sub-text c = (ends_with c.args.text.now c.requires.0 c.args.rest.now c.utf8.text c.utf8.rest c.requires.1).within

pub range-requires-clause-end_boundary : goal.range-requires-clause-end_boundary
range-requires-clause-end_boundary c = (ends_with c.args.text.now c.requires.0 c.args.rest.now c.utf8.text c.utf8.rest c.requires.1).cut

pub returns-clause-parts : goal.returns-clause-parts
returns-clause-parts c =
    let is = ends_with c.args.text.now c.requires.0 c.args.rest.now c.utf8.text c.utf8.rest c.requires.1 in
    let n = length c.args.text.now - length c.args.rest.now in
    let size : n - 0 ≡ n = omega arith in
    let taken : c.range.result.now ≡ take n c.args.text.now = c.range.ensures.value ∙ ap (λ k. take k c.args.text.now) size in
    c.requires.1 ∙ ap (λ x. x ++ chars c.args.rest.now) (sym (ap chars taken ∙ is.before))
