use Rattle.std.proofs.Common.{length, sym, subst}
use Rattle.yaml_tree.proofs.{Prelude.{eqb-true, nil_from_length, limits_of, style_text, GoesOn}, InStyleLemmas.styled_formatted}
use Rattle.yaml_tree.specs.InStyle.{AreLinesOf}
use Rattle.yaml_tree.proofs.in_style.lines_in_style.Goals as goal

pub returns-in-Ok-clause-given : goal.returns-in-Ok-clause-given
returns-in-Ok-clause-given c =
    let bytes = c.args.bytes.now in
    let limits = limits_of c.args.limits.now in
    let lines = c.in-Some.lines.now in
    let styled = c.in-Ok.styled in
    let read = c.in-Ok.ensures in
    let none = nil_from_length styled.rest.now (eqb-true (length styled.rest.now) 0 (sym c.if-is_empty.ensures)) in
    let are : AreLinesOf lines read.tree styled.size = record {
      written = subst (GoesOn lines (style_text read.tree)) none read.goes_on;
      size_is = read.size_is;
      sound = read.sound;
    } in
    styled_formatted c.style_reads.ensures.alone c.style_reads.ensures.framed bytes lines limits read.tree styled.size
    c.in-Some.ensures.some are
