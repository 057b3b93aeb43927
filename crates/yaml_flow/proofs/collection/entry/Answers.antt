use Rattle.std.{proofs.Common.{◌≡◌, true, false, sym, ap, ◌∙◌, arith, length, ◌+◌, ◌-◌, ◌*◌, ◌<◌, refl}, specs.Prelude.◌==◌}
use Rattle.yaml_flow.proofs.{Prelude.{rest, context_of, first, closer, is_asked, faults_so, ok_so, sign_there}, Appends.appended_one}
use Rattle.yaml_flow.proofs.{FlowSteps.{begins, closes, question}, SameLines.{closer_line, sign_then}}
use Rattle.yaml_flow.proofs.collection.entry.Goals.{then-not-stands_at-via-then-not-stands_at}
use Rattle.yaml_flow.proofs.{collection.entry.Goals.then-not-stands_at-via-else-not-stands_at+then-safe_at, Signs.closer_starts}
use Rattle.yaml_flow.proofs.Signs.{closer_there, no_question, not_starting, question_asks, safe_after}
use Rattle.yaml_flow.specs.{declared.collection.Part.TheVariants.First, Frames.{Onward, bracket_end, in_sequence, place_of, steps_left}}
use Rattle.yaml_flow.proofs.collection.entry.Goals as goal

pub returns-then-stands_at-clause-onward : goal.returns-then-stands_at-clause-onward
returns-then-stands_at-clause-onward c =
    let text = c.args.text.now in
    let in_seq = in_sequence c.args.top.now.kind in
    let h : first (λ x. x == closer in_seq) (rest text c.args.at) ≡ true =
    ap (λ k. first (λ x. x == k) (rest text c.args.at)) (sym c.closing.ensures) ∙ (sym c.stands_at.ensures ∙ c.if-stands_at.true) in
    let s = closer_there text c.args.at in_seq c.utf8.text c.requires h in
    record { boundary = s.boundary; above = omega arith; within = omega (arith, s.below) }

pub returns-then-stands_at-clause-less : goal.returns-then-stands_at-clause-less
returns-then-stands_at-clause-less c =
    let text = c.args.text.now in
    let in_seq = in_sequence c.args.top.now.kind in
    let h : first (λ x. x == closer in_seq) (rest text c.args.at) ≡ true =
    ap (λ k. first (λ x. x == k) (rest text c.args.at)) (sym c.closing.ensures) ∙ (sym c.stands_at.ensures ∙ c.if-stands_at.true) in
    let s = closer_there text c.args.at in_seq c.utf8.text c.requires h in
    omega (arith, s.below)

pub returns-then-stands_at-clause-line : goal.returns-then-stands_at-clause-line
returns-then-stands_at-clause-line c =
    let text = c.args.text.now in
    let in_seq = in_sequence c.args.top.now.kind in
    let h : first (λ x. x == closer in_seq) (rest text c.args.at) ≡ true =
    ap (λ k. first (λ x. x == k) (rest text c.args.at)) (sym c.closing.ensures) ∙ (sym c.stands_at.ensures ∙ c.if-stands_at.true) in
    closer_line text c.args.line.now c.args.at in_seq c.utf8.text c.requires (closer_there text c.args.at in_seq c.utf8.text c.requires h)

pub returns-then-stands_at-clause-stands : goal.returns-then-stands_at-clause-stands
returns-then-stands_at-clause-stands c =
    let n = c.args.setting.n in
    let d = context_of c.args.setting.context in
    let text = c.args.text.now in
    let in_seq = in_sequence c.args.top.now.kind in
    let h : first (λ x. x == closer in_seq) (rest text c.args.at) ≡ true =
    ap (λ k. first (λ x. x == k) (rest text c.args.at)) (sym c.closing.ensures) ∙ (sym c.stands_at.ensures ∙ c.if-stands_at.true) in
    let s = closer_there text c.args.at in_seq c.utf8.text c.requires h in
    λ w here. closes n d text w in_seq c.args.at c.args.events.now c.push.new.events s
    (closer_starts text c.args.at in_seq c.utf8.text c.requires s)
    (appended_one text c.args.events.now c.push.new.events c.end_event.result
    (bracket_end in_seq) c.in_ok-push.ensures.ok c.end_event.ensures.meant (c.end_event.ensures.borrowed text)) here

pub safe_at-requires : goal.safe_at-requires
safe_at-requires c =
    (sign_there c.args.text.now c.args.at 63 c.utf8.text c.requires (omega arith)
    (sym c.stands_at-2.ensures ∙ c.if-not-stands_at.false)).boundary

pub returns-then-not-stands_at-clause-stands : goal.returns-then-not-stands_at-clause-stands
returns-then-not-stands_at-clause-stands c =
    let n = c.args.setting.n in
    let text = c.args.text.now in
    let d = context_of c.args.setting.context in
    let in_seq = in_sequence c.args.top.now.kind in
    let asked : is_asked d (rest text c.args.at) ≡ false = elim c.then-not-stands_at.branch [
      | then-not-stands_at-via-then-not-stands_at w ↦ no_question d (rest text c.args.at)
          (sym c.stands_at-2.ensures ∙ w.if-not-stands_at.true)
      | then-not-stands_at-via-else-not-stands_at+then-safe_at w ↦ safe_after d text c.args.at
          (sign_there text c.args.at 63 c.utf8.text c.requires (omega arith) (sym c.stands_at-2.ensures ∙ w.if-not-stands_at.false))
          (sym w.safe_at.ensures ∙ w.if-safe_at.true)
    ] in
    λ w here. begins n d text w (record c.args.top.now { part = First }) in_seq c.args.at c.args.events.now refl refl
    (ap (λ k. first (λ x. x == k) (rest text c.args.at)) (sym c.closing.ensures)
    ∙ (sym c.stands_at.ensures ∙ c.if-stands_at.false)) asked here

pub asked-requires-clause-at : goal.asked-requires-clause-at
asked-requires-clause-at c =
    (sign_there c.args.text.now c.args.at 63 c.utf8.text c.requires (omega arith)
    (sym c.stands_at-2.ensures ∙ c.if-not-stands_at.false)).boundary

pub asked-requires-clause-inside_line : goal.asked-requires-clause-inside_line
asked-requires-clause-inside_line c =
    not_starting c.args.text.now c.args.at 63 c.utf8.text c.requires
    (sign_there c.args.text.now c.args.at 63 c.utf8.text c.requires (omega arith)
    (sym c.stands_at-2.ensures ∙ c.if-not-stands_at.false)) refl refl

pub returns-clause-line : goal.returns-clause-line
returns-clause-line c =
    let text = c.args.text.now in
    let s = sign_there text c.args.at 63 c.utf8.text c.requires (omega arith) (sym c.stands_at-2.ensures ∙ c.if-not-stands_at.false) in
    ok_so c.asked.result _ _ (λ next h. sign_then text c.args.line.now c.args.at 63 c.asked.new.line
    (place_of next) c.utf8.text c.requires s refl h) c.asked.ensures.line

pub returns-clause-stands : goal.returns-clause-stands
returns-clause-stands c =
    let n = c.args.setting.n in
    let d = context_of c.args.setting.context in
    let text = c.args.text.now in
    let s = sign_there text c.args.at 63 c.utf8.text c.requires (omega arith) (sym c.stands_at-2.ensures ∙ c.if-not-stands_at.false) in
    ok_so c.asked.result _ _
    (λ next h. λ w here. h w (question n d text w (in_sequence c.args.top.now.kind) c.args.at c.args.events.now s
    (question_asks d text c.args.at s (sym c.safe_at.ensures ∙ c.if-safe_at.false))
    (ap (λ k. first (λ x. x == k) (rest text c.args.at)) (sym c.closing.ensures)
    ∙ (sym c.stands_at.ensures ∙ c.if-stands_at.false)) here)) c.asked.ensures.stands

pub returns-clause-none : goal.returns-clause-none
returns-clause-none c =
    let n = c.args.setting.n in
    let d = context_of c.args.setting.context in
    let text = c.args.text.now in
    let s = sign_there text c.args.at 63 c.utf8.text c.requires (omega arith) (sym c.stands_at-2.ensures ∙ c.if-not-stands_at.false) in
    faults_so c.asked.result _ _
    (λ h. λ w here. h w (question n d text w (in_sequence c.args.top.now.kind) c.args.at c.args.events.now s
    (question_asks d text c.args.at s (sym c.safe_at.ensures ∙ c.if-safe_at.false))
    (ap (λ k. first (λ x. x == k) (rest text c.args.at)) (sym c.closing.ensures)
    ∙ (sym c.stands_at.ensures ∙ c.if-stands_at.false)) here)) c.asked.ensures.none

pub returns-clause-onward : goal.returns-clause-onward
returns-clause-onward c =
    ok_so c.asked.result _ (Onward c.args.text.now c.args.at)
    (λ next h. let on = h.above in record { boundary = h.boundary; above = omega (arith, on); within = h.within })
    c.asked.ensures.onward

pub returns-clause-less : goal.returns-clause-less
returns-clause-less c =
    let text = c.args.text.now in
    ok_so c.asked.result _ (λ next. steps_left text next < 2 * (length text - c.args.at) + 1)
    (λ next h. omega (arith, h)) c.asked.ensures.less
