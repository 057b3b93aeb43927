use Rattle.std.proofs.Common.{◌≡◌, ◌+◌, None, Some, [], ◌∷◌, ◌++◌, refl, sym, ap, ◌∙◌, arith, length, option_map}
use Rattle.tree_path.proofs.Prelude.{YieldsList-from_chars, YieldsList-turn, YieldsList-end, at_drop_all, length_push, chars}
use Rattle.tree_path.specs.Steps.{number_of, as_usize}
use Rattle.tree_path.proofs.Numbers.{read_on, read_on-None, read_on-other, digit-true, digit-false, next-None, next-Some, next-zero}
use Rattle.tree_edits.proofs.index.number.Goals as goal

pub loop-c-init : goal.loop-c-init
loop-c-init c = (None, read_on-None (chars c.args.token.now), refl)

pub returns-in_err-digit : goal.returns-in_err-digit
returns-in_err-digit c =
    let turn = YieldsList-turn (YieldsList-from_chars c.args.token.now c.utf8.token cc) c.loop-c.yielded _
    c.loop-c.yielded_by _ _ c.in-Some.c c.in-Some.is c.next.ensures.steps in
    let l = c.loop-c.invariant in
    let e = read_on-other (chars c.args.token.now) (length c.loop-c.yielded) c.in-Some.c l.0 turn
    (digit-false c.in-Some.c c.in_err-digit.ensures.value) in
    c.from_residual.ensures ∙ ap (option_map as_usize) (sym e ∙ l.1)

pub returns-in-Some-eq0 : goal.returns-in-Some-eq0
returns-in-Some-eq0 c =
    let turn = YieldsList-turn (YieldsList-from_chars c.args.token.now c.utf8.token cc) c.loop-c.yielded _
    c.loop-c.yielded_by _ _ c.in-Some.c c.in-Some.is c.next.ensures.steps in
    let l = c.loop-c.invariant in
    let is = digit-true c.in-Some.c c.in_ok-digit.ensures.value.0 in
    let zero : c.in-Some-eq0.field-0 ≡ 0 = sym c.in-Some-eq0.field-0-is ∙ c.in-Some-eq0.field-0-test in
    ap (option_map as_usize)
    (next-zero (chars c.args.token.now) (length c.loop-c.yielded) c.in-Some.c l.0 (number_of (chars c.args.token.now)) turn is.0
    (sym (ap Some zero) ∙ sym c.in-Some-eq0.is ∙ l.2) l.1)

pub loop-c-preserved-in-None-number : goal.loop-c-preserved-in-None-number
loop-c-preserved-in-None-number c =
    let turn = YieldsList-turn (YieldsList-from_chars c.args.token.now c.utf8.token cc) c.loop-c.yielded _
    c.loop-c.yielded_by _ _ c.in-Some.c c.in-Some.is c.next.ensures.steps in
    let l = c.loop-c.invariant in
    let is = digit-true c.in-Some.c c.in_ok-digit.ensures.value.0 in
    next-None (chars c.args.token.now) (length c.loop-c.yielded)
    (length (c.loop-c.yielded ++ c.in-Some.c ∷ [])) c.in-Some.c c.in_ok-digit.field-0 l.0
    (number_of (chars c.args.token.now)) turn (length_push c.loop-c.yielded c.in-Some.c) (is.0, c.in_ok-digit.ensures.value.1 ∙ is.1)
    (omega (arith, c.in_ok-digit.ensures.value.0, c.in_ok-digit.ensures.value.1)) (sym c.in-None-number.is ∙ l.2) l.1

pub loop-c-preserved : goal.loop-c-preserved
loop-c-preserved c =
    let turn = YieldsList-turn (YieldsList-from_chars c.args.token.now c.utf8.token cc) c.loop-c.yielded _
    c.loop-c.yielded_by _ _ c.in-Some.c c.in-Some.is c.next.ensures.steps in
    let l = c.loop-c.invariant in
    let is = digit-true c.in-Some.c c.in_ok-digit.ensures.value.0 in
    next-Some (chars c.args.token.now) (length c.loop-c.yielded)
    (length (c.loop-c.yielded ++ c.in-Some.c ∷ [])) c.in-Some.c c.in_ok-digit.field-0
    c.in-Some-number.n c.saturating_add.result l.0 (number_of (chars c.args.token.now)) turn (length_push c.loop-c.yielded c.in-Some.c)
    (is.0, c.in_ok-digit.ensures.value.1 ∙ is.1) (rw c.in-Some-number.is at c.in-Some-number.n-test).1
    (c.saturating_add.ensures ∙ ap (λ m. as_usize (m + c.in_ok-digit.field-0)) c.saturating_mul.ensures)
    (sym c.in-Some-number.is ∙ l.2) l.1

pub returns : goal.returns
returns c =
    let end = YieldsList-end (YieldsList-from_chars c.args.token.now c.utf8.token cc) c.loop-c.yielded _
    c.loop-c.yielded_by _ _ c.in-None.is c.next.ensures.steps in
    let l = c.loop-c.invariant in
    l.2 ∙ ap (option_map as_usize) (sym (at_drop_all (read_on l.0) (chars c.args.token.now) (length c.loop-c.yielded)
    (omega (arith, end.1))) ∙ l.1)
