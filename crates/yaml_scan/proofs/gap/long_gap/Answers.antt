use Rattle.std.proofs.Common.{sym, ◌∙◌}
use Rattle.yaml_scan.proofs.{Prelude.{rest, context_of}, Outcomes.{faults_so, ok_so}}
use Rattle.yaml_scan.proofs.gap.long_gap.Goals.{then-is_on_one_line-via-then-is_on_one_line}
use Rattle.yaml_scan.proofs.{gap.long_gap.Goals.then-is_on_one_line-via-else-is_on_one_line+then-solid_at, GapSteps.gap_over_lines_is}
use Rattle.yaml_scan.{proofs.GapSteps.{inline_gap_is, no_gap, reads_before_solid, reads_in_key, reads_on_line}, specs.Gaps.IsGap}
use Rattle.yaml_scan.specs.Gaps.{IsLinesGap, NoGap, NoLinesGap}
use Rattle.yaml_scan.proofs.gap.long_gap.Goals as goal

pub returns-then-is_on_one_line-clause-found : goal.returns-then-is_on_one_line-clause-found
returns-then-is_on_one_line-clause-found c =
    inline_gap_is c.args.n (context_of c.args.context) c.args.text.now c.args.at c.white_end-white.result c.utf8.text
    c.requires c.white_end-white.ensures.taken (elim c.then-is_on_one_line.branch [
      | then-is_on_one_line-via-then-is_on_one_line w ↦
          reads_in_key c.args.n (context_of c.args.context) (rest c.args.text.now c.args.at)
          (sym c.is_on_one_line.ensures ∙ w.if-is_on_one_line.true)
      | then-is_on_one_line-via-else-is_on_one_line+then-solid_at w ↦
          reads_before_solid c.args.n (context_of c.args.context) c.args.text.now c.args.at c.white_end-white.result
          c.utf8.text c.requires c.white_end-white.ensures.taken
          (sym w.solid_at.ensures ∙ w.if-solid_at.true) (sym c.is_on_one_line.ensures ∙ w.if-is_on_one_line.false)
    ])

pub returns-in-Some-clause-found : goal.returns-in-Some-clause-found
returns-in-Some-clause-found c =
    ok_so c.gap_over_lines.result (IsLinesGap c.args.n c.args.text.now c.in-Some.next)
    (IsGap c.args.n (context_of c.args.context) c.args.text.now c.args.at)
    (λ gap h. gap_over_lines_is c.args.n (context_of c.args.context) c.args.text.now c.args.at c.in-Some.next gap c.utf8.text c.requires
    (sym c.is_on_one_line.ensures ∙ c.if-is_on_one_line.false) c.in-Some.ensures.found h)
    c.gap_over_lines.ensures.found

pub returns-in-Some-clause-none : goal.returns-in-Some-clause-none
returns-in-Some-clause-none c =
    faults_so c.gap_over_lines.result (NoLinesGap c.args.n c.args.text.now c.in-Some.next)
    (NoGap c.args.n (context_of c.args.context) (rest c.args.text.now c.args.at))
    (λ h. no_gap c.args.n (context_of c.args.context) c.args.text.now c.args.at c.in-Some.next
    (sym c.is_on_one_line.ensures ∙ c.if-is_on_one_line.false) c.in-Some.ensures.found h)
    c.gap_over_lines.ensures.none

pub returns-in-None-clause-found : goal.returns-in-None-clause-found
returns-in-None-clause-found c =
    inline_gap_is c.args.n (context_of c.args.context) c.args.text.now c.args.at c.white_end-white.result c.utf8.text
    c.requires c.white_end-white.ensures.taken
    (reads_on_line c.args.n (context_of c.args.context) (rest c.args.text.now c.args.at)
    (sym c.is_on_one_line.ensures ∙ c.if-is_on_one_line.false) c.in-None.ensures.none)
