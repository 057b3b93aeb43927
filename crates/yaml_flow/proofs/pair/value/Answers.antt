use Rattle.std.{proofs.Common.{◌≡◌, true, false, sym, subst, ap, ◌∙◌, arith, length, ℕ, ◌+◌, ◌-◌, ◌*◌, ◌<◌, ◌≤◌, refl}, specs.Prelude.Bool}
use Rattle.std.specs.Prelude.{not, ◌||◌, ◌&&◌, nat_lt, List, []}
use Rattle.yaml_flow.proofs.Prelude.{err_from_is_err_and, rest, context_of, omitted_at, omitted_style, scalar_event, FlowContext, one_line}
use Rattle.yaml_flow.proofs.{Prelude.{ends_entry, read_gap, NoGap, fault_passed, ok_so, sign_there}, Results.ok_two, PairKeys.left_out}
use Rattle.yaml_flow.proofs.{SameLines.sign_then, Stacks.kept_then, Signs.not_starting, Appends.{appended_one, appended_then}}
use Rattle.yaml_flow.{proofs.ColonSteps.{pair_without_value, value_dead, value_waits}, specs.declared.collection.Part.TheVariants.Value}
use Rattle.yaml_flow.specs.Frames.{LineMoves, Onward, Passes, Stands, ends_plain, in_sequence, pair_end, place_of, steps_left}
use Rattle.yaml_flow.proofs.pair.value.Goals as goal

-- the code's test is the recognizer's
test_is : (n : ℕ) (d : FlowContext) (text : List ℕ) (start at : ℕ) (plain : Bool) → Passes n d text start at
    → left_out plain (read_gap n (one_line d) (rest text start)) ≡ ends_entry (rest text at) || (plain && not (nat_lt start at))
test_is n d text start at plain gap =
    ap (left_out plain) gap.reads ∙ ap (λ x. ends_entry (rest text at) || (plain && not x)) gap.some

pub pass_gap-requires : goal.pass_gap-requires
pass_gap-requires c = (sign_there c.args.text.now c.args.colon 58 c.utf8.text c.requires.at (omega arith) c.requires.stands).boundary

pub returns-in_err-at-clause-none : goal.returns-in_err-at-clause-none
returns-in_err-at-clause-none c =
    let n = c.args.setting.n in
    let d = context_of c.args.setting.context in
    let text = c.args.text.now in
    let s = sign_there text c.args.colon 58 c.utf8.text c.requires.at (omega arith) c.requires.stands in
    fault_passed c.from_residual.result c.in_err-at.field-0.0 (NoGap n d (rest text (c.args.colon + 1))) _
    (λ stop. λ w here. value_dead n d text w (in_sequence c.args.top.now.kind) c.args.key_end c.args.colon
    c.args.events.now here s stop) c.in_err-at.ensures.none
    (err_from_is_err_and c.from_residual.result c.from_residual.ensures.1)

pub returns-then-is_left_out-clause-line : goal.returns-then-is_left_out-clause-line
returns-then-is_left_out-clause-line c =
    let text = c.args.text.now in
    let s = sign_there text c.args.colon 58 c.utf8.text c.requires.at (omega arith) c.requires.stands in
    ok_so c.close_pair.result _ _
    (λ next h. subst (λ x. LineMoves text c.args.line.now c.args.colon c.pass_gap.new.line (place_of x)) (sym h)
    (sign_then text c.args.line.now c.args.colon 58 c.pass_gap.new.line c.in_ok-at.at c.utf8.text c.requires.at s refl
    c.in_ok-at.ensures.line)) c.close_pair.ensures.next

pub returns-then-is_left_out-clause-stands : goal.returns-then-is_left_out-clause-stands
returns-then-is_left_out-clause-stands c =
    let n = c.args.setting.n in
    let d = context_of c.args.setting.context in
    let text = c.args.text.now in
    let s = sign_there text c.args.colon 58 c.utf8.text c.requires.at (omega arith) c.requires.stands in
    let gap = c.in_ok-at.ensures.found in
    let in_seq = in_sequence c.args.top.now.kind in
    let after = c.args.colon + 1 in
    let absent = c.in_ok-push_omitted.ensures.ok in
    let test : left_out (ends_plain c.args.key_end) (read_gap n (one_line d) (rest text after)) ≡ true =
    test_is n d text after c.in_ok-at.at (ends_plain c.args.key_end) gap ∙ (sym c.is_left_out.ensures ∙ c.if-is_left_out.true) in
    ok_two c.close_pair.result _ _ _
    (λ next e h. λ w here. subst (λ x. Stands n d text w c.args.top.now x c.close_pair.new.events) (sym e)
    (pair_without_value n d text w in_seq c.args.key_end c.args.colon c.args.events.now here c.in_ok-at.at
    c.close_pair.new.events s gap test
    (appended_then text c.args.events.now c.push_omitted.new.events c.close_pair.new.events (omitted_at after) (pair_end in_seq)
    (appended_one text c.args.events.now c.push_omitted.new.events absent.event
    (scalar_event omitted_style after after []) absent.is absent.means (absent.borrows text))
    (h text)))) c.close_pair.ensures.next c.close_pair.ensures.written

pub returns-clause-line : goal.returns-clause-line
returns-clause-line c =
    let text = c.args.text.now in
    let s = sign_there text c.args.colon 58 c.utf8.text c.requires.at (omega arith) c.requires.stands in
    sign_then text c.args.line.now c.args.colon 58 c.pass_gap.new.line c.in_ok-at.at c.utf8.text c.requires.at s refl
    c.in_ok-at.ensures.line

pub returns-clause-stands : goal.returns-clause-stands
returns-clause-stands c =
    let n = c.args.setting.n in
    let d = context_of c.args.setting.context in
    let text = c.args.text.now in
    let s = sign_there text c.args.colon 58 c.utf8.text c.requires.at (omega arith) c.requires.stands in
    let gap = c.in_ok-at.ensures.found in
    let test : left_out (ends_plain c.args.key_end) (read_gap n (one_line d) (rest text (c.args.colon + 1))) ≡ false =
    test_is n d text (c.args.colon + 1) c.in_ok-at.at (ends_plain c.args.key_end) gap
    ∙ (sym c.is_left_out.ensures ∙ c.if-is_left_out.false) in
    λ w here. value_waits n d text w (in_sequence c.args.top.now.kind) c.args.key_end c.args.colon c.args.events.now
    here (record c.args.top.now { part = Value }) c.in_ok-at.at refl refl
    (not_starting text c.args.colon 58 c.utf8.text c.requires.at s refl refl) s gap test

pub returns-then-is_left_out-clause-onward : goal.returns-then-is_left_out-clause-onward
returns-then-is_left_out-clause-onward c =
    let gap = c.in_ok-at.ensures.found in
    let above : c.args.colon + 1 ≤ c.in_ok-at.at = gap.above in
    ok_so c.close_pair.result _ _
    (λ next e. subst (Onward c.args.text.now c.args.colon) (sym e)
    (record { boundary = gap.boundary; above = omega (arith, above); within = gap.boundary.0 }))
    c.close_pair.ensures.next

pub returns-then-is_left_out-clause-less : goal.returns-then-is_left_out-clause-less
returns-then-is_left_out-clause-less c =
    let text = c.args.text.now in
    let gap = c.in_ok-at.ensures.found in
    let above : c.args.colon + 1 ≤ c.in_ok-at.at = gap.above in
    let within : c.in_ok-at.at ≤ length text = gap.boundary.0 in
    ok_so c.close_pair.result _ _
    (λ next e. subst (λ x. steps_left text x < 2 * (length text - c.args.colon)) (sym e) (omega (arith, above, within)))
    c.close_pair.ensures.next

pub returns-then-is_left_out-clause-kept : goal.returns-then-is_left_out-clause-kept
returns-then-is_left_out-clause-kept c = λ k.
    kept_then k c.args.events.now c.push_omitted.new.events c.close_pair.new.events (c.push_omitted.ensures.kept k)
    (c.close_pair.ensures.kept k)

pub returns-clause-onward : goal.returns-clause-onward
returns-clause-onward c =
    let gap = c.in_ok-at.ensures.found in
    let above : c.args.colon + 1 ≤ c.in_ok-at.at = gap.above in
    record { boundary = gap.boundary; above = omega (arith, above); within = gap.boundary.0 }

pub returns-clause-less : goal.returns-clause-less
returns-clause-less c =
    let gap = c.in_ok-at.ensures.found in
    let above : c.args.colon + 1 ≤ c.in_ok-at.at = gap.above in
    let within : c.in_ok-at.at ≤ length c.args.text.now = gap.boundary.0 in
    omega (arith, above, within)
