use Rattle.std.{proofs.Common.{◌<◌, Some, ap, arith, length, sym, ◌∙◌}, specs.Prelude.max}
use Rattle.yaml_block_scalars.proofs.Indents.{indent_at_end, indent_marked, indent_narrow, indent_no_text, indent_set, indent_too_wide}
use Rattle.yaml_block_scalars.proofs.Indents.{nb_there}
use Rattle.yaml_block_scalars.proofs.indent.detected.Goals as goal

pub returns-then-end-text-clause-found : goal.returns-then-end-text-clause-found
returns-then-end-text-clause-found c =
    indent_at_end c.args.least c.args.text.now c.args.at c.leading_lines-widest.result.0
    c.leading_lines-widest.result.1 c.spaces_end-end.result c.utf8.text c.leading_lines-widest.ensures
    c.spaces_end-end.ensures (omega arith)
    ∙ ap (λ x. Some x) (sym (c.max-then-end-text.ensures ∙ ap (max c.args.least) c.max.ensures))

pub returns-then-width-least-clause-found : goal.returns-then-width-least-clause-found
returns-then-width-least-clause-found c =
    let within = c.spaces_end-end.ensures.boundary.0 in
    let l : c.spaces_end-end.result < length c.args.text.now = omega (arith, c.if-end-text.false) in
    indent_narrow c.args.least c.args.text.now c.args.at c.leading_lines-widest.result.0
    c.leading_lines-widest.result.1 c.spaces_end-end.result c.utf8.text c.leading_lines-widest.ensures
    c.spaces_end-end.ensures l c.if-width-least.true
    ∙ ap (λ x. Some x) (sym c.max-then-width-least.ensures)

pub returns-then-is_marker-clause-found : goal.returns-then-is_marker-clause-found
returns-then-is_marker-clause-found c =
    let within = c.spaces_end-end.ensures.boundary.0 in
    let l : c.spaces_end-end.result < length c.args.text.now = omega (arith, c.if-end-text.false) in
    indent_marked c.args.least c.args.text.now c.args.at c.leading_lines-widest.result.0
    c.leading_lines-widest.result.1 c.spaces_end-end.result c.utf8.text c.leading_lines-widest.ensures
    c.spaces_end-end.ensures l
    (sym c.is_marker.ensures ∙ c.if-is_marker.true)
    ∙ ap (λ x. Some x) (sym c.max-then-is_marker.ensures)

pub returns-then-width-widest-clause-none : goal.returns-then-width-widest-clause-none
returns-then-width-widest-clause-none c =
    let within = c.spaces_end-end.ensures.boundary.0 in
    let l : c.spaces_end-end.result < length c.args.text.now = omega (arith, c.if-end-text.false) in
    indent_too_wide c.args.least c.args.text.now c.args.at c.leading_lines-widest.result.0
    c.leading_lines-widest.result.1 c.spaces_end-end.result c.utf8.text c.leading_lines-widest.ensures
    c.spaces_end-end.ensures l
    c.if-width-least.false (sym c.is_marker.ensures ∙ c.if-is_marker.false) c.if-width-widest.true

pub returns-in-Some-clause-found : goal.returns-in-Some-clause-found
returns-in-Some-clause-found c =
    let within = c.spaces_end-end.ensures.boundary.0 in
    let l : c.spaces_end-end.result < length c.args.text.now = omega (arith, c.if-end-text.false) in
    indent_set c.args.least c.args.text.now c.args.at c.leading_lines-widest.result.0 c.leading_lines-widest.result.1
    c.spaces_end-end.result c.utf8.text c.leading_lines-widest.ensures c.spaces_end-end.ensures l
    c.if-width-least.false (sym c.is_marker.ensures ∙ c.if-is_marker.false) c.if-width-widest.false
    (nb_there c.args.text.now c.spaces_end-end.result c.in-Some.field-0 c.in-Some.ensures.found)

pub returns-in-None-clause-none : goal.returns-in-None-clause-none
returns-in-None-clause-none c =
    let within = c.spaces_end-end.ensures.boundary.0 in
    let l : c.spaces_end-end.result < length c.args.text.now = omega (arith, c.if-end-text.false) in
    indent_no_text c.args.least c.args.text.now c.args.at c.leading_lines-widest.result.0
    c.leading_lines-widest.result.1 c.spaces_end-end.result c.utf8.text c.leading_lines-widest.ensures
    c.spaces_end-end.ensures l
    c.if-width-least.false (sym c.is_marker.ensures ∙ c.if-is_marker.false) c.in-None.ensures.none
