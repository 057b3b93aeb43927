use Rattle.yaml_block_scalars.proofs.TextLines.{line_there}
use Rattle.yaml_block_scalars.proofs.line.text_line.Goals as goal

pub returns-clause-found : goal.returns-clause-found
returns-clause-found c =
    line_there c.args.indent c.args.text.now c.args.at c.requires.past
    (record {
      start = c.in-Some.start;
      end = c.nb_end-end.result;
      white = c.white_at.result;
      has_break = c.in-Some-stop_at.stop.has_break;
      empties = c.empty_lines-empties.result.0;
      next = c.empty_lines-empties.result.1;
    })
    c.in-Some-stop_at.stop.next c.in-Some.ensures.found c.nb_end-end.ensures c.in-Some-stop_at.ensures.found
    c.empty_lines-empties.ensures c.white_at.ensures
