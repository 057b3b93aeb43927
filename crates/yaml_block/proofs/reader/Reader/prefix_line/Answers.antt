use Rattle.std.{proofs.Common.{◌≡◌, arith, inl, inr, length, ◌-◌, ◌*◌, ◌≤◌}, specs.Prelude.◌⊎◌}
use Rattle.yaml_block.specs.{States.{BeforeNode, BeforeNodeLine}, Lines.is_shallow, declared.indentation.Indentation.Indentation}
use Rattle.yaml_block.proofs.SignsAndLines.{Becomes, leads_so, fails_so, onward_so, prefix_line_there}
use Rattle.yaml_block.proofs.reader.Reader.prefix_line.Goals.{then-line-at, else-line-at}
use Rattle.yaml_block.proofs.reader.Reader.prefix_line.Goals as goal

node_starts : goal.After-on_line → Indentation
node_starts c = record { least = c.args.least; margin = c.if-line-at.margin; context = c.args.context }

-- the node is on the line
node_here : (c : goal.After-on_line)
    → Becomes (BeforeNode c.args.text.now c.args.least (is_shallow c.args.context) c.args.at)
    (BeforeNodeLine c.args.text.now (node_starts c) c.solid_line-line.result.start)
unfolding node_starts
node_here c =
    let text = c.args.text.now in
    let line = c.solid_line-line.result in
    let margin = c.if-line-at.margin in
    let by : ((line.start ≡ c.args.at) × (margin ≡ 0)) ⊎ ((line.start ≡ c.args.at → ⊥) × (margin ≡ c.args.least)) =
    elim c.if-line-at.branch [
      | then-line-at w ↦ inl (w.if-line-at.true, w.margin-is)
      | else-line-at w ↦ inr (w.if-line-at.false, w.margin-is)
    ] in
    prefix_line_there text c.args.least c.args.at c.args.context c.utf8.text c.requires.at line margin
    c.requires.starts c.solid_line-line.ensures.found by

pub returns-clause-leads : goal.returns-clause-leads
unfolding node_starts
returns-clause-leads c =
    leads_so c.args.text.now c.on_line.result
    (BeforeNodeLine c.args.text.now (node_starts c) c.solid_line-line.result.start) _ c.args.self.now
    c.on_line.new.self (node_here c) c.on_line.ensures.leads

pub returns-clause-none : goal.returns-clause-none
unfolding node_starts
returns-clause-none c =
    fails_so c.args.text.now c.on_line.result
    (BeforeNodeLine c.args.text.now (node_starts c) c.solid_line-line.result.start) _ c.args.self.now (node_here c)
    c.on_line.ensures.none

pub returns-clause-onward : goal.returns-clause-onward
returns-clause-onward c =
    let text = c.args.text.now in
    let at = c.args.at in
    let start = c.solid_line-line.result.start in
    let above : at ≤ start = c.solid_line-line.ensures.found.above in
    onward_so text at start (3 * (length text - start)) (3 * (length text - at)) c.on_line.result above
    (omega (arith, above)) c.on_line.ensures.onward
