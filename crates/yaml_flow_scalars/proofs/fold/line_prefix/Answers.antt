use Rattle.std.proofs.Common.{arith}
use Rattle.yaml_flow_scalars.proofs.FoldSteps.{prefix_empty, prefix_indented, prefix_short}
use Rattle.yaml_flow_scalars.proofs.fold.line_prefix.Goals as goal

pub returns-in-Some : goal.returns-in-Some
returns-in-Some c = prefix_empty c.args.indent c.args.text.now c.args.at _ c.requires c.in-Some.ensures.found

pub returns-then-margin-at : goal.returns-then-margin-at
returns-then-margin-at c = prefix_short c.args.indent c.args.text.now c.args.at c.spaces_end-margin.result c.utf8.text
    c.requires c.spaces_end-margin.ensures (omega arith)

pub returns : goal.returns
returns c =
    prefix_indented c.args.indent c.args.text.now c.args.at c.spaces_end-margin.result c.white_end.result c.utf8.text
    c.requires c.spaces_end-margin.ensures (omega arith) c.white_end.ensures.run
