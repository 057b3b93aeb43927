use Rattle.std.proofs.Common.{◌≡◌, arith, ◌+◌, [], None, true}
use Rattle.yaml_flow_scalars.proofs.Prelude.{string_bytes, err_from_is_err_and, IsUtf8-string_bytes, rest, context_of, fault_passed}
use Rattle.yaml_flow_scalars.proofs.{DoublePlaces.after_byte, DoubleAdds.{escape_adds, begins_escaped, escaped_join_adds}}
use Rattle.yaml_flow_scalars.specs.DoubleScan.{double_value, NoJoinAt}
use Rattle.yaml_flow_scalars.proofs.double_quoted.push_escape.Goals as goal

pub returns-in-Some-clause-ok : goal.returns-in-Some-clause-ok
returns-in-Some-clause-ok c =
    let r = c.requires in
    escape_adds c.args.n (context_of c.args.context) c.args.text.now (string_bytes c.args.value.now)
    (string_bytes c.push.new.self) c.args.at c.in-Some.escape.meant c.in-Some.escape.end c.utf8.text r.within r.backslash
    (IsUtf8-string_bytes c.args.value.now) c.in-Some.ensures.found c.in_ok-push.ensures.bytes

pub line_after-requires : goal.line_after-requires
line_after-requires c =
    let r = c.requires in
    after_byte c.args.text.now c.args.at 92 c.utf8.text r.within r.backslash (omega arith)

pub returns-in_err-fold-clause-err : goal.returns-in_err-fold-clause-err
returns-in_err-fold-clause-err c =
    let r = c.requires in
    let a = c.args in
    let begins = begins_escaped a.n a.text.now a.at c.utf8.text r.within r.backslash c.in_default.ensures.none in
    fault_passed c.from_residual-in_err-fold.result c.in_err-fold.field-0.0
    (NoJoinAt a.n (context_of a.context) a.text.now (a.at + 1))
    (double_value a.n (context_of a.context) (rest a.text.now a.at) ≡ None)
    (λ none. none true (rest a.text.now a.at) [] begins) c.in_err-fold.ensures.err
    (err_from_is_err_and c.from_residual-in_err-fold.result c.from_residual-in_err-fold.ensures.1)

pub returns-clause-ok : goal.returns-clause-ok
returns-clause-ok c =
    let r = c.requires in
    let a = c.args in
    let begins = begins_escaped a.n a.text.now a.at c.utf8.text r.within r.backslash c.in_default.ensures.none in
    escaped_join_adds a.n (context_of a.context) a.text.now a.at
    (a.at + 1) c.in_ok-fold.fold.empties c.in_ok-fold.fold.next c.in_ok-fold.ensures.ok (string_bytes a.value.now)
    (string_bytes c.push_line_feeds.new.value)
    (IsUtf8-string_bytes a.value.now) begins c.in_ok-push_line_feeds.ensures
