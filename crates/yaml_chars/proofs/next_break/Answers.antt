use Rattle.std.{proofs.Common.{◌+◌, sym, subst}, specs.Option.IfNone}
use Rattle.yaml_chars.{specs.{Breaks.{NoBreak, IsNextBreak}, Places.rest}, proofs.Breaks.{NoBreak-rest, no_break_is, ends_line}}
use Rattle.yaml_chars.proofs.Breaks.{next_break_is, bytes_from}
use Rattle.yaml_chars.proofs.next_break.Goals as goal

pub returns-in_err-start-clause-last_line : goal.returns-in_err-start-clause-last_line
returns-in_err-start-clause-last_line c =
    let none = subst NoBreak (bytes_from _ _ c.args.at c.as_bytes-bytes.ensures.value) (no_break_is _ c.in_err-start.ensures) in
    subst (λ r. IfNone r (NoBreak (rest c.args.text.now c.args.at))) (sym c.from_residual.ensures)
    (NoBreak-rest c.args.text.now c.args.at c.utf8.text c.requires none)

is_next : (c : goal.After-break_len) → IsNextBreak c.args.text.now c.args.at (c.args.at + c.in_ok-start.field-0) c.break_len.result
is_next c =
    let value = c.as_bytes-bytes.ensures.value in
    next_break_is c.args.text.now _ _ c.args.at c.in_ok-start.field-0 c.break_len.result
    (bytes_from _ _ c.args.at value) (bytes_from _ _ (c.args.at + c.in_ok-start.field-0) value)
    c.in_ok-start.ensures.0.before c.break_len.ensures

pub returns-clause-found : goal.returns-clause-found
returns-clause-found c = is_next c

pub returns-clause-line : goal.returns-clause-line
returns-clause-line c = ends_line _ _ _ _ c.utf8.text c.requires (is_next c)
