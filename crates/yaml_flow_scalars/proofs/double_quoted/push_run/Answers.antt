use Rattle.std.proofs.Common.{◌≡◌, ◌∙◌, sym, ap, arith, ◌++◌, None, false}
use Rattle.yaml_flow_scalars.proofs.Prelude.{string_bytes, IfOk-weaker, IfErr-weaker, err_from_is_err_and, IsUtf8-string_bytes, rest}
use Rattle.yaml_flow_scalars.proofs.{Prelude.{between, context_of, Refuses, at_break, fault_passed, refuses_so}, DoublePlaces.stands}
use Rattle.yaml_flow_scalars.proofs.{DoublePlaces.{stands_not, byte_read}, DoubleAdds.{adds_more, adds_none, run_adds, inked_adds}}
use Rattle.yaml_flow_scalars.{proofs.DoubleAdds.{run_stray, begins_white, folded_join_adds}, specs.Folds.IsWhiteStart}
use Rattle.yaml_flow_scalars.specs.DoubleScan.{double_value, Adds, NoJoinAt}
use Rattle.yaml_flow_scalars.proofs.double_quoted.push_run.Goals as goal

pub returns-then-stands_at-clause-ok : goal.returns-then-stands_at-clause-ok
returns-then-stands_at-clause-ok c =
    let a = c.args in
    let d = context_of a.context in
    let text = a.text.now in
    let there = stands text a.end 92 c.stands_at.result c.utf8.text c.requires.run.boundary
    (omega arith) c.stands_at.ensures c.if-stands_at.true in
    let old = string_bytes a.value.now in
    let mid = string_bytes c.push_str.new.self in
    let run = run_adds a.n d text c.utf8.text a.from a.end c.requires.from c.requires.run old mid
    (IsUtf8-string_bytes a.value.now) (ap at_break (byte_read text a.end 92 c.utf8.text there.0 there.1 (omega arith)))
    (c.in_ok-push_str.ensures.bytes ∙ ap (λ x. old ++ x) c.range.ensures.value) in
    IfOk-weaker c.push_escape.result (λ next. Adds a.n d text mid a.end (string_bytes c.push_escape.new.value) next)
    (λ next. Adds a.n d text old a.from (string_bytes c.push_escape.new.value) next)
    (λ next h. adds_more a.n d text old a.from mid a.end (string_bytes c.push_escape.new.value) next run h) c.push_escape.ensures.ok

pub returns-then-stands_at-clause-err : goal.returns-then-stands_at-clause-err
returns-then-stands_at-clause-err c =
    let a = c.args in
    let d = context_of a.context in
    let text = a.text.now in
    let there = stands text a.end 92 c.stands_at.result c.utf8.text c.requires.run.boundary
    (omega arith) c.stands_at.ensures c.if-stands_at.true in
    let old = string_bytes a.value.now in
    let mid = string_bytes c.push_str.new.self in
    let run = run_adds a.n d text c.utf8.text a.from a.end c.requires.from c.requires.run old mid
    (IsUtf8-string_bytes a.value.now) (ap at_break (byte_read text a.end 92 c.utf8.text there.0 there.1 (omega arith)))
    (c.in_ok-push_str.ensures.bytes ∙ ap (λ x. old ++ x) c.range.ensures.value) in
    IfErr-weaker c.push_escape.result (λ fault. Refuses fault (double_value a.n d (rest text a.end) ≡ None))
    (λ fault. Refuses fault (double_value a.n d (rest text a.from) ≡ None))
    (λ fault h. refuses_so fault (double_value a.n d (rest text a.end) ≡ None) (double_value a.n d (rest text a.from) ≡ None)
    (λ none. adds_none a.n d text old a.from mid a.end run none) h) c.push_escape.ensures.err

pub returns-then-end-text-clause-err : goal.returns-then-end-text-clause-err
returns-then-end-text-clause-err c =
    run_stray c.args.n (context_of c.args.context) c.args.text.now c.utf8.text c.args.from c.args.end c.requires.from
    c.requires.run c.requires.goes_on
    (stands_not c.args.text.now c.args.end 92 c.stands_at.result c.utf8.text
    (omega arith) c.stands_at.ensures c.if-stands_at.false) (sym c.breaks_at.ensures ∙ c.if-not-breaks_at.true)

pub returns-else-end-text-clause-err : goal.returns-else-end-text-clause-err
returns-else-end-text-clause-err c =
    run_stray c.args.n (context_of c.args.context) c.args.text.now c.utf8.text c.args.from c.args.end c.requires.from
    c.requires.run c.requires.goes_on
    (stands_not c.args.text.now c.args.end 92 c.stands_at.result c.utf8.text
    (omega arith) c.stands_at.ensures c.if-stands_at.false) (sym c.breaks_at.ensures ∙ c.if-not-breaks_at.true)

pub returns-in_err-fold-clause-err : goal.returns-in_err-fold-clause-err
returns-in_err-fold-clause-err c =
    let a = c.args in
    let d = context_of a.context in
    let text = a.text.now in
    let old = string_bytes a.value.now in
    let white = c.white_start-white.result in
    let start : IsWhiteStart text a.from white a.end = c.white_start-white.ensures in
    let begins = begins_white a.n text a.from white a.end c.utf8.text c.requires.run.boundary start
    (sym c.breaks_at.ensures ∙ c.if-not-breaks_at.false) in
    let run = inked_adds a.n d text c.utf8.text a.from a.end c.requires.from c.requires.run old
    (string_bytes c.push_str-2.new.self) white (IsUtf8-string_bytes a.value.now) start
    (c.in_ok-push_str-2.ensures.bytes ∙ ap (λ x. old ++ x) c.range-2.ensures.value) in
    fault_passed c.from_residual-in_err-fold.result c.in_err-fold.field-0.0 (NoJoinAt a.n d text a.end)
    (double_value a.n d (rest text a.from) ≡ None)
    (λ none. adds_none a.n d text old a.from (string_bytes c.push_str-2.new.self) white run
    (none false (rest text white) (between text white a.end) begins))
    c.in_err-fold.ensures.err (err_from_is_err_and c.from_residual-in_err-fold.result c.from_residual-in_err-fold.ensures.1)

pub returns-clause-ok : goal.returns-clause-ok
returns-clause-ok c =
    let a = c.args in
    let d = context_of a.context in
    let text = a.text.now in
    let old = string_bytes a.value.now in
    let mid = string_bytes c.push_str-2.new.self in
    let new = string_bytes c.push_fold.new.value in
    let white = c.white_start-white.result in
    let empties = c.in_ok-fold.fold.empties in
    let next = c.in_ok-fold.fold.next in
    let start : IsWhiteStart text a.from white a.end = c.white_start-white.ensures in
    let begins = begins_white a.n text a.from white a.end c.utf8.text c.requires.run.boundary start
    (sym c.breaks_at.ensures ∙ c.if-not-breaks_at.false) in
    let run = inked_adds a.n d text c.utf8.text a.from a.end c.requires.from c.requires.run old mid white
    (IsUtf8-string_bytes a.value.now) start (c.in_ok-push_str-2.ensures.bytes ∙ ap (λ x. old ++ x) c.range-2.ensures.value) in
    adds_more a.n d text old a.from mid white new next run
    (folded_join_adds a.n d text white a.end empties next c.in_ok-fold.ensures.ok mid new
    (IsUtf8-string_bytes c.push_str-2.new.self) (between text white a.end) begins
    c.in_ok-push_fold.ensures)

pub push_escape-requires-clause-within : goal.push_escape-requires-clause-within
push_escape-requires-clause-within c =
    let there = stands c.args.text.now c.args.end 92 c.stands_at.result c.utf8.text c.requires.run.boundary
    (omega arith) c.stands_at.ensures c.if-stands_at.true in
    there.0

pub push_escape-requires-clause-backslash : goal.push_escape-requires-clause-backslash
push_escape-requires-clause-backslash c =
    let there = stands c.args.text.now c.args.end 92 c.stands_at.result c.utf8.text c.requires.run.boundary
    (omega arith) c.stands_at.ensures c.if-stands_at.true in
    there.1
