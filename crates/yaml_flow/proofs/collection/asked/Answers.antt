use Rattle.std.proofs.Common.{arith, ◌<◌, refl}
use Rattle.yaml_flow.proofs.{Prelude.{err_from_is_err_and, rest, context_of, NoGap, fault_passed, refuses}, FlowSteps.{asks, asks_dead}}
use Rattle.yaml_flow.{proofs.FlowSteps.asks_nothing, specs.{declared.collection.Part.TheVariants.Asked, Frames.in_sequence}}
use Rattle.yaml_flow.proofs.collection.asked.Goals as goal

pub returns-in_err-key-clause-none : goal.returns-in_err-key-clause-none
returns-in_err-key-clause-none c =
    let n = c.args.setting.n in
    let d = context_of c.args.setting.context in
    let text = c.args.text.now in
    fault_passed c.from_residual.result c.in_err-key.field-0.0 (NoGap n d (rest text c.args.at)) _
    (λ stop. λ w here. asks_dead n d text w (in_sequence c.args.top.now.kind) c.args.at c.args.events.now stop here)
    c.in_err-key.ensures.none
    (err_from_is_err_and c.from_residual.result c.from_residual.ensures.1)

pub returns-then-key-at-clause-none : goal.returns-then-key-at-clause-none
returns-then-key-at-clause-none c =
    let n = c.args.setting.n in
    let d = context_of c.args.setting.context in
    let text = c.args.text.now in
    refuses c.fault.result _
    (λ w here. asks_nothing n d text w (in_sequence c.args.top.now.kind) c.args.at c.in_ok-key.key c.args.events.now
    c.if-key-at.true c.in_ok-key.ensures.found here)

pub returns-clause-stands : goal.returns-clause-stands
returns-clause-stands c =
    let n = c.args.setting.n in
    let d = context_of c.args.setting.context in
    let text = c.args.text.now in
    let gap = c.in_ok-key.ensures.found in
    let above = gap.above in
    let apart = c.if-key-at.false in
    let further : c.args.at < c.in_ok-key.key = omega (arith, above, apart) in
    λ w here. asks n d text w (record c.args.top.now { part = Asked })
    (in_sequence c.args.top.now.kind) c.args.at c.in_ok-key.key c.args.events.now c.start_pair.new.events refl refl
    c.requires.inside_line further gap (c.in_ok-start_pair.ensures.written text) here
