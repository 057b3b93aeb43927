use Rattle.std.{proofs.Common.{length, subst, true, ◌*◌, ◌-◌}, specs.Prelude.ℕ}
use Rattle.yaml_block.{proofs.{Prelude.{outer, FlowNodeRead}, LineValueSteps.{leaf_is_line, line_onward}}, specs.States.Onward}
use Rattle.yaml_block.specs.declared.frame.Next.TheVariants as next
use Rattle.yaml_block.proofs.reader.Reader.line_leaf.Goals as goal

pub returns-clause-leads : goal.returns-clause-leads
returns-clause-leads c =
    let text = c.args.text.now in
    let leaf = c.args.leaf in
    let scalar = c.args.scalar in
    let put = c.in_ok-put_plain.ensures in
    leaf_is_line text c.utf8.text leaf scalar c.args.self.now c.put_plain.new.self c.requires.start c.requires.scalar
    (subst (λ (at : ℕ). FlowNodeRead leaf.least outer text at scalar.end c.args.self.now.events
    c.put_plain.new.self.events) c.requires.start (put.read leaf.least outer c.requires.scalar.plain))
    put.collections put.end

pub returns-clause-onward : goal.returns-clause-onward
returns-clause-onward c =
    let text = c.args.text.now in
    let scalar = c.args.scalar in
    subst (λ (at : ℕ). Onward text at (3 * (length text - at))
    (next.Line (record { line = scalar.after; is_solid = true }))) c.requires.start
    (line_onward text scalar c.args.leaf.least c.requires.scalar)
