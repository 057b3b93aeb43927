use Rattle.std.proofs.Common.{inl, inr, sym, ◌∙◌}
use Rattle.yaml_flow_scalars.proofs.{Prelude.{not-false, not-true, rest, no_break}, FoldSteps.{fold_there, folding_goes_on, no_fold_there}}
use Rattle.yaml_flow_scalars.proofs.fold.fold_at.Goals.{then-not-prefix-via-then-not-prefix}
use Rattle.yaml_flow_scalars.proofs.fold.fold_at.Goals.{then-not-prefix-via-else-not-prefix+then-is_marker}
use Rattle.yaml_flow_scalars.proofs.fold.fold_at.Goals as goal

pub returns-in_default-clause-none : goal.returns-in_default-clause-none
returns-in_default-clause-none c = λ escaped blank.
    no_break escaped c.args.indent blank (rest c.args.text.now c.args.at) c.in_default.ensures.none

pub lines-preserved : goal.lines-preserved
lines-preserved c =
    folding_goes_on c.args.indent c.args.text.now c.args.at c.lines.line c.lines.empties
    c.line_prefix-prefix.result.end c.in-Some-break_end.next
    c.line_prefix-prefix.result.indented c.lines.invariant c.line_prefix-prefix.ensures c.in-Some-break_end.ensures.found

pub returns-then-not-prefix-clause-none : goal.returns-then-not-prefix-clause-none
returns-then-not-prefix-clause-none c =
    no_fold_there c.args.indent c.args.text.now c.args.at c.lines.line c.lines.empties c.line_prefix-prefix.result.end
    c.line_prefix-prefix.result.indented
    c.lines.invariant c.line_prefix-prefix.ensures c.in_default-break_end.ensures.none (elim c.then-not-prefix.branch [
      | then-not-prefix-via-then-not-prefix w ↦ inl (not-true _ w.if-not-prefix.true)
      | then-not-prefix-via-else-not-prefix+then-is_marker w ↦ inr (sym w.is_marker.ensures ∙ w.if-is_marker.true)
    ])

pub returns-in-lines-clause-found : goal.returns-in-lines-clause-found
returns-in-lines-clause-found c =
    fold_there c.args.indent c.args.text.now c.args.at c.lines.line c.lines.empties c.line_prefix-prefix.result.end
    c.line_prefix-prefix.result.indented
    c.lines.invariant c.line_prefix-prefix.ensures c.in_default-break_end.ensures.none
    (not-false _ c.if-not-prefix.false) (sym c.is_marker.ensures ∙ c.if-is_marker.false)
