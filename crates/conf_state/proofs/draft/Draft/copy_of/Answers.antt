use Rattle.std.proofs.Common.{Some, option_copied, sym, ap, ◌∙◌}
use Rattle.conf_state.proofs.{Prelude.IfOk-weaker, OriginLemmas.{held-there, not-held}}
use Rattle.conf_state.proofs.draft.Draft.copy_of.Goals as goal

pub returns-in-Some : goal.returns-in-Some
returns-in-Some g c =
    let es = g.O.Origin.configs c.args.origin.now in
    let held = sym c.get.ensures ∙ ap option_copied c.in-Some.is in
    ap Some c.in_ok-try_copy.ensures
    ∙ sym (held-there es c.args.self.now c.requires c.args.name.now c.utf8.name c.in-Some.config.now held)

pub returns : goal.returns
returns g c =
    let es = g.O.Origin.configs c.args.origin.now in
    let missing = sym c.get.ensures ∙ ap option_copied c.in_default.is in
    IfOk-weaker c.untouched.result _ _
    (λ copy is. is ∙ sym (not-held es c.args.self.now c.requires c.args.name.now c.utf8.name missing)) c.untouched.ensures
