use Rattle.std.{proofs.Common.{sym, ◌∙◌, arith, ◌<◌, length, ap}, specs.Prelude.{not, false}}
use Rattle.yaml_block.proofs.{Prelude.{rest, block_node_stops}, PairTests.{not_as_deep, no_pair_at_line_end, no_pair_at_end}}
use Rattle.yaml_block.proofs.PairTests.{pair_after_spaces, pair_by_marker, filled_there}
use Rattle.yaml_block.proofs.next_line.goes_on_with_pair.Goals as goal

pub returns-then-line-indent : goal.returns-then-line-indent
returns-then-line-indent c =
    not_as_deep c.args.indent (rest c.args.text.now c.args.after.line.start)
    (not (block_node_stops c.args.indent false (rest c.args.text.now c.args.after.line.start)))
    (λ e. c.if-line-indent.true (sym ((c.requires.line).spaces).counts ∙ e))

pub returns-then-not-after : goal.returns-then-not-after
returns-then-not-after c = no_pair_at_line_end c.args.indent (rest c.args.text.now c.args.after.line.start)
    (c.requires.solid ∙ c.if-not-after.true)

pub returns-then-indent-gt0 : goal.returns-then-indent-gt0
returns-then-indent-gt0 c = pair_after_spaces c.args.indent (rest c.args.text.now c.args.after.line.start)
    c.if-indent-gt0.true (((c.requires.line).spaces).counts ∙ c.if-line-indent.false)
    (c.requires.solid ∙ c.if-not-after.false)

pub returns-then-line-text : goal.returns-then-line-text
returns-then-line-text c = no_pair_at_end c.args.text.now c.args.indent c.args.after.line.start c.if-line-text.true

pub returns : goal.returns
returns c =
    let text = c.args.text.now in
    let start = c.args.after.line.start in
    let below : start < length text = omega (arith, (c.requires.line).boundary.0, c.if-line-text.false) in
    ap not c.is_marker.ensures
    ∙ pair_by_marker c.args.indent (rest text start) (((c.requires.line).spaces).counts ∙ c.if-line-indent.false)
    (c.requires.solid ∙ c.if-not-after.false)
    (filled_there text start c.utf8.text (c.requires.line).boundary below)
