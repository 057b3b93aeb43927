use Rattle.std.{proofs.Common.{true, sym, ap, ◌∙◌, arith}, specs.Prelude.not}
use Rattle.yaml_flow.{proofs.Prelude.{rest, context_of, is_colon, sign_there}, specs.Frames.ends_plain}
use Rattle.yaml_flow.proofs.pair.colon_at.Goals as goal

pub safe_at-requires : goal.safe_at-requires
safe_at-requires c = (sign_there c.args.text.now c.args.at 58 c.utf8.text c.requires (omega arith)
    (sym c.stands_at.ensures ∙ c.if-not-stands_at.false)).boundary

pub returns-in-Plain : goal.returns-in-Plain
returns-in-Plain c =
    let text = c.args.text.now in
    let d = context_of c.args.context in
    let s = sign_there text c.args.at 58 c.utf8.text c.requires (omega arith) (sym c.stands_at.ensures ∙ c.if-not-stands_at.false) in
    ap not c.safe_at.ensures ∙ (sym (ap (is_colon d true) s.splits)
    ∙ ap (λ e. is_colon d (ends_plain e) (rest text c.args.at)) (sym c.in-Plain.is))
