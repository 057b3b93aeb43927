use Rattle.std.{proofs.Common.{◌≡◌, true, sym, ap, ◌∙◌, arith, length, ◌-◌, ◌*◌, ◌<◌, refl}, specs.Prelude.◌==◌}
use Rattle.yaml_flow.proofs.{Prelude.{rest, context_of, first, closer, refuses, faults_so, ok_so, sign_there}, Appends.appended_one}
use Rattle.yaml_flow.proofs.{FlowSteps.{closes_entry, comma_passed, no_closing}, SameLines.{closer_line, sign_then}, Signs.closer_starts}
use Rattle.yaml_flow.{proofs.Signs.{closer_there, not_starting}, specs.Frames.{Onward, bracket_end, in_sequence, place_of, steps_left}}
use Rattle.yaml_flow.proofs.collection.after_entry.Goals as goal

pub pass-requires-clause-at : goal.pass-requires-clause-at
pass-requires-clause-at c = (sign_there c.args.text.now c.args.at 44 c.utf8.text c.requires (omega arith)
    (sym c.stands_at.ensures ∙ c.if-stands_at.true)).boundary

pub pass-requires-clause-inside_line : goal.pass-requires-clause-inside_line
pass-requires-clause-inside_line c =
    let text = c.args.text.now in
    let s = sign_there text c.args.at 44 c.utf8.text c.requires (omega arith) (sym c.stands_at.ensures ∙ c.if-stands_at.true) in
    not_starting text c.args.at 44 c.utf8.text c.requires s refl refl

pub returns-then-stands_at-clause-line : goal.returns-then-stands_at-clause-line
returns-then-stands_at-clause-line c =
    let text = c.args.text.now in
    let s = sign_there text c.args.at 44 c.utf8.text c.requires (omega arith) (sym c.stands_at.ensures ∙ c.if-stands_at.true) in
    ok_so c.pass.result _ _ (λ next h. sign_then text c.args.line.now c.args.at 44 c.pass.new.line
    (place_of next) c.utf8.text c.requires s refl h) c.pass.ensures.line

pub returns-then-stands_at-clause-stands : goal.returns-then-stands_at-clause-stands
returns-then-stands_at-clause-stands c =
    let n = c.args.setting.n in
    let d = context_of c.args.setting.context in
    let text = c.args.text.now in
    let s = sign_there text c.args.at 44 c.utf8.text c.requires (omega arith) (sym c.stands_at.ensures ∙ c.if-stands_at.true) in
    ok_so c.pass.result _ _
    (λ next h. λ w here. h w c.args.top c.args.events.now
    (comma_passed n d text w (in_sequence c.args.top.kind) c.args.at c.args.events.now s here)) c.pass.ensures.stands

pub returns-then-stands_at-clause-none : goal.returns-then-stands_at-clause-none
returns-then-stands_at-clause-none c =
    let n = c.args.setting.n in
    let d = context_of c.args.setting.context in
    let text = c.args.text.now in
    let s = sign_there text c.args.at 44 c.utf8.text c.requires (omega arith) (sym c.stands_at.ensures ∙ c.if-stands_at.true) in
    faults_so c.pass.result _ _
    (λ h. λ w here. h w (in_sequence c.args.top.kind) c.args.events.now
    (comma_passed n d text w (in_sequence c.args.top.kind) c.args.at c.args.events.now s here)) c.pass.ensures.none

pub returns-then-stands_at-2-clause-onward : goal.returns-then-stands_at-2-clause-onward
returns-then-stands_at-2-clause-onward c =
    let text = c.args.text.now in
    let h : first (λ x. x == closer (in_sequence c.args.top.kind)) (rest text c.args.at) ≡ true =
    ap (λ k. first (λ x. x == k) (rest text c.args.at)) (sym c.closing.ensures) ∙ (sym c.stands_at-2.ensures ∙ c.if-stands_at-2.true) in
    let s = closer_there text c.args.at (in_sequence c.args.top.kind) c.utf8.text c.requires h in
    record { boundary = s.boundary; above = omega arith; within = omega (arith, s.below) }

pub returns-then-stands_at-2-clause-less : goal.returns-then-stands_at-2-clause-less
returns-then-stands_at-2-clause-less c =
    let text = c.args.text.now in
    let h : first (λ x. x == closer (in_sequence c.args.top.kind)) (rest text c.args.at) ≡ true =
    ap (λ k. first (λ x. x == k) (rest text c.args.at)) (sym c.closing.ensures) ∙ (sym c.stands_at-2.ensures ∙ c.if-stands_at-2.true) in
    let s = closer_there text c.args.at (in_sequence c.args.top.kind) c.utf8.text c.requires h in
    omega (arith, s.below)

pub returns-then-stands_at-2-clause-line : goal.returns-then-stands_at-2-clause-line
returns-then-stands_at-2-clause-line c =
    let text = c.args.text.now in
    let h : first (λ x. x == closer (in_sequence c.args.top.kind)) (rest text c.args.at) ≡ true =
    ap (λ k. first (λ x. x == k) (rest text c.args.at)) (sym c.closing.ensures) ∙ (sym c.stands_at-2.ensures ∙ c.if-stands_at-2.true) in
    closer_line text c.args.line.now c.args.at (in_sequence c.args.top.kind) c.utf8.text c.requires
    (closer_there text c.args.at (in_sequence c.args.top.kind) c.utf8.text c.requires h)

pub returns-then-stands_at-2-clause-stands : goal.returns-then-stands_at-2-clause-stands
returns-then-stands_at-2-clause-stands c =
    let n = c.args.setting.n in
    let d = context_of c.args.setting.context in
    let text = c.args.text.now in
    let in_seq = in_sequence c.args.top.kind in
    let h : first (λ x. x == closer in_seq) (rest text c.args.at) ≡ true =
    ap (λ k. first (λ x. x == k) (rest text c.args.at)) (sym c.closing.ensures) ∙ (sym c.stands_at-2.ensures ∙ c.if-stands_at-2.true) in
    let s = closer_there text c.args.at in_seq c.utf8.text c.requires h in
    λ w here. closes_entry n d text w in_seq c.args.at c.args.events.now c.push.new.events s
    (closer_starts text c.args.at in_seq c.utf8.text c.requires s)
    (appended_one text c.args.events.now c.push.new.events c.end_event.result
    (bracket_end in_seq) c.in_ok-push.ensures.ok c.end_event.ensures.meant (c.end_event.ensures.borrowed text)) here

pub returns-clause-none : goal.returns-clause-none
returns-clause-none c =
    let n = c.args.setting.n in
    let d = context_of c.args.setting.context in
    let text = c.args.text.now in
    refuses c.fault.result _
    (λ w here. no_closing n d text w (in_sequence c.args.top.kind) c.args.at c.args.events.now
    (sym c.stands_at.ensures ∙ c.if-stands_at.false)
    (ap (λ k. first (λ x. x == k) (rest text c.args.at)) (sym c.closing.ensures)
    ∙ (sym c.stands_at-2.ensures ∙ c.if-stands_at-2.false)) here)

pub returns-then-stands_at-clause-onward : goal.returns-then-stands_at-clause-onward
returns-then-stands_at-clause-onward c =
    ok_so c.pass.result _ (Onward c.args.text.now c.args.at)
    (λ next h. let on = h.above in record { boundary = h.boundary; above = omega (arith, on); within = h.within })
    c.pass.ensures.onward

pub returns-then-stands_at-clause-less : goal.returns-then-stands_at-clause-less
returns-then-stands_at-clause-less c =
    let text = c.args.text.now in
    let s = sign_there text c.args.at 44 c.utf8.text c.requires (omega arith)
    (sym c.stands_at.ensures ∙ c.if-stands_at.true) in
    let below = s.below in
    ok_so c.pass.result _ (λ next. steps_left text next < 2 * (length text - c.args.at))
    (λ next h. omega (arith, below, h)) c.pass.ensures.less
