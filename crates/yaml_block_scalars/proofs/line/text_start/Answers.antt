use Rattle.std.proofs.Common.{arith, sym, ◌∙◌}
use Rattle.yaml_block_scalars.proofs.{Indents.nb_there, TextLines.{line_marked, line_narrow, line_no_text, start_there, start_wide}}
use Rattle.yaml_block_scalars.proofs.line.text_start.Goals.{then-width-indent-2+in-Some+else-is_marker, else-width-indent-2}
use Rattle.yaml_block_scalars.proofs.line.text_start.Goals as goal

pub returns-then-width-indent-clause-none : goal.returns-then-width-indent-clause-none
returns-then-width-indent-clause-none c =
    line_narrow c.args.indent c.args.text.now c.args.at c.spaces_end-end.result c.utf8.text c.requires.boundary
    c.spaces_end-end.ensures c.requires.past c.if-width-indent.true

pub returns-in_default-clause-none : goal.returns-in_default-clause-none
returns-in_default-clause-none c =
    line_no_text c.args.indent c.args.text.now c.args.at c.spaces_end-end.result c.utf8.text c.requires.boundary
    c.spaces_end-end.ensures c.requires.past c.if-width-indent-2.true c.in_default.ensures.none

pub returns-then-is_marker-clause-none : goal.returns-then-is_marker-clause-none
returns-then-is_marker-clause-none c =
    line_marked c.args.indent c.args.text.now c.args.at c.spaces_end-end.result c.utf8.text c.requires.boundary
    c.spaces_end-end.ensures c.requires.past c.if-width-indent-2.true (sym c.is_marker.ensures ∙ c.if-is_marker.true)

pub returns-clause-found : goal.returns-clause-found
returns-clause-found c = elim c.if-width-indent-2.branch [
  | then-width-indent-2+in-Some+else-is_marker w ↦
      start_there c.args.indent c.args.text.now c.args.at c.spaces_end-end.result c.utf8.text c.requires.boundary
      c.spaces_end-end.ensures w.if-width-indent-2.true
      (nb_there c.args.text.now c.spaces_end-end.result w.in-Some.field-0 w.in-Some.ensures.found)
      (sym w.is_marker.ensures ∙ w.if-is_marker.false)
  | else-width-indent-2 w ↦
      start_wide c.args.indent c.args.text.now c.args.at c.spaces_end-end.result c.utf8.text c.requires.boundary
      c.spaces_end-end.ensures (omega (arith, w.if-width-indent-2.false))
]
