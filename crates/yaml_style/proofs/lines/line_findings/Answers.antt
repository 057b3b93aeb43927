-- At the end nothing is left.
use Rattle.std.proofs.Common.{◌++◌, ap, sym, ◌∙◌, suc, append-nil}
use Rattle.yaml_style.{proofs.{Prelude.{chars, chars-nil}, SplitLemmas.no_bytes}, specs.{Lines.lines, Findings.line_findings}}
use Rattle.yaml_style.proofs.lines.line_findings.Goals as goal

pub returns : goal.returns
returns c =
    let left = no_bytes c.loop-rest.rest.now (sym c.is_empty.ensures ∙ c.loop-rest-test.false) in
    sym (append-nil c.loop-rest.findings.items)
    ∙ ap (λ cs. c.loop-rest.findings.items ++ line_findings (suc c.loop-rest.number) (lines cs)) (sym (ap chars left ∙ chars-nil))
    ∙ c.loop-rest.invariant.found
