use Rattle.std.proofs.Common.{◌<◌, arith, length}
use Rattle.yaml_block_scalars.proofs.FirstLines.{header_end_at_end, header_end_found, header_end_missing}
use Rattle.yaml_block_scalars.proofs.first_line.header_end.Goals as goal

pub returns-then-at-text-clause-found : goal.returns-then-at-text-clause-found
returns-then-at-text-clause-found c = header_end_at_end c.args.text.now c.args.at c.requires (omega arith)

pub returns-clause-found : goal.returns-clause-found
returns-clause-found c =
    let within = c.requires.0 in
    let l : c.args.at < length c.args.text.now = omega (arith, c.if-at-text.false) in
    header_end_found c.args.text.now c.args.at c.rest_of_line_end.result c.utf8.text c.requires l c.rest_of_line_end.ensures.found

pub returns-clause-none : goal.returns-clause-none
returns-clause-none c =
    let within = c.requires.0 in
    let l : c.args.at < length c.args.text.now = omega (arith, c.if-at-text.false) in
    header_end_missing c.args.text.now c.args.at c.rest_of_line_end.result c.utf8.text c.requires l c.rest_of_line_end.ensures.none
