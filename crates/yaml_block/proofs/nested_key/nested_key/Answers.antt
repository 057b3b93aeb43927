use Rattle.std.proofs.Common.{arith, refl, sym, ◌+◌, ◌∙◌}
use Rattle.yaml_block.proofs.{Prelude.{and_parts, closes_after_end, line_after_end, sign_there}, LineValueSteps.closing_colon}
use Rattle.yaml_block.proofs.nested_key.nested_key.Goals as goal

-- the place after the `:`
pub stands_at-requires-2-clause-at : goal.stands_at-requires-2-clause-at
stands_at-requires-2-clause-at c =
    (sign_there c.args.text.now c.args.colon 58 c.utf8.text c.requires (omega arith)
    (sym c.stands_at.ensures ∙ c.if-not-stands_at.false)).boundary

pub rest_of_line_end-requires : goal.rest_of_line_end-requires
rest_of_line_end-requires c =
    (sign_there c.args.text.now c.args.colon 58 c.utf8.text c.requires (omega arith)
    (sym c.stands_at.ensures ∙ c.if-not-stands_at.false)).boundary

pub returns-clause-colon : goal.returns-clause-colon
returns-clause-colon c =
    closing_colon c.args.text.now c.utf8.text c.args.colon c.requires
    (sym c.stands_at.ensures ∙ c.if-not-stands_at.false) (sym c.stands_at-2.ensures ∙ c.if-not-stands_at-2.false)

pub returns-clause-nested : goal.returns-clause-nested
returns-clause-nested c =
    let text = c.args.text.now in
    let line = c.solid_line-line.result in
    let line_end = c.in-Some.ensures.found in
    let found = c.solid_line-line.ensures.found in
    let fits = and_parts _ _ (sym c.has_colon.ensures ∙ c.if-not-has_colon.false) in
    record {
      start = line.start;
      solid = line_after_end text (c.args.colon + 1) c.in-Some.next line line_end found;
      starts = c.solid_line-line.ensures.starts line_end.starts;
      closes = closes_after_end text (c.args.colon + 1) c.in-Some.next line line_end found;
      indent = refl;
      deeper = omega (arith, c.if-spaces-indent.false);
      line = c.in-Some-plain_first_line_end.ensures;
      short = fits.1;
      colon = fits.0;
    }
