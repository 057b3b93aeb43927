use Rattle.std.proofs.Common.{◌-◌, arith, ap, get_or, sym, ◌∙◌}
use Rattle.yaml_scan.proofs.{Prelude.line_break, LineStarts.{starts_at_beginning, starts_by_break, starts_by_mark}}
use Rattle.yaml_scan.proofs.breaks.line_starts.Goals as goal

pub returns-then-at-eq0 : goal.returns-then-at-eq0
returns-then-at-eq0 c = starts_at_beginning c.args.text.now c.args.at c.if-at-eq0.true

pub returns-then-is_break : goal.returns-then-is_break
returns-then-is_break c =
    starts_by_break c.args.text.now c.args.at c.utf8.text c.requires (omega arith)
    (ap (λ x. line_break (get_or x (c.args.at - 1) 0)) (sym c.as_bytes-bytes.ensures.value) ∙ sym c.is_break.ensures ∙ c.if-is_break.true)

pub returns : goal.returns
returns c =
    starts_by_mark c.args.text.now c.args.at c.is_byte_order_mark.result c.utf8.text c.requires (omega arith)
    (ap (λ x. line_break (get_or x (c.args.at - 1) 0)) (sym c.as_bytes-bytes.ensures.value) ∙ sym c.is_break.ensures ∙ c.if-is_break.false)
    (λ h. sym c.range.ensures.value ∙ c.is_byte_order_mark.ensures.0 h, λ e. c.is_byte_order_mark.ensures.1 (c.range.ensures.value ∙ e))
