use Rattle.yaml_flow.proofs.{Prelude.{err_from_is_err_and, rest, context_of, NoGap, fault_passed}, FlowSteps.{not_passed, passed}}
use Rattle.yaml_flow.specs.Frames.{in_sequence}
use Rattle.yaml_flow.proofs.collection.pass.Goals as goal

pub returns-in_err-end-clause-none : goal.returns-in_err-end-clause-none
returns-in_err-end-clause-none c =
    let n = c.args.setting.n in
    let d = context_of c.args.setting.context in
    let text = c.args.text.now in
    fault_passed c.from_residual.result c.in_err-end.field-0.0 (NoGap n d (rest text c.args.at)) _
    (λ stop. λ w in_seq events here. not_passed n d text w in_seq c.args.at events stop here) c.in_err-end.ensures.none
    (err_from_is_err_and c.from_residual.result c.from_residual.ensures.1)

pub returns-clause-stands : goal.returns-clause-stands
returns-clause-stands c =
    let n = c.args.setting.n in
    let d = context_of c.args.setting.context in
    λ w top events here. passed n d c.args.text.now w
    (in_sequence top.kind) c.args.at c.in_ok-end.end events c.in_ok-end.ensures.found c.requires.inside_line here
