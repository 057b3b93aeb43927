use Rattle.std.proofs.Common.{arith}
use Rattle.yaml_block.proofs.Prelude.{between, plain_style, outer, closes_after_end, line_after_end, ScalarAt, ends_inside_line}
use Rattle.yaml_block.proofs.FurtherLines.{no_further_line}
use Rattle.yaml_block.proofs.line_value.rest_of_line.Goals as goal

pub returns-clause-rest : goal.returns-clause-rest
returns-clause-rest c =
    let text = c.args.text.now in
    let start = c.args.start in
    let end = c.args.end in
    let least = c.args.least in
    let next = c.in-Some.next in
    let after = c.solid_line-after.result in
    let line_end = c.in-Some.ensures.found in
    let found = c.solid_line-after.ensures.found in
    let line = line_after_end text end next after line_end found in
    let closes = closes_after_end text end next after line_end found in
    let whole : ScalarAt plain_style least outer text start (between text start end) end = c.requires.line.whole least
    (no_further_line least text end after line closes (omega (arith, c.if-after-least.false))) in
    record {
      boundary = c.requires.start;
      plain = record {
        scalar = whole;
        unbroken = c.requires.line.unbroken;
        inside_line = ends_inside_line plain_style least outer text start (between text start end) end c.utf8.text
            c.requires.start whole;
      };
      line = line;
      starts = c.solid_line-after.ensures.starts line_end.starts;
      closes = closes;
    }
