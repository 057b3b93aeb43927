use Rattle.std.proofs.Common.{ap, sym, ◌∙◌}
use Rattle.conf_state.{proofs.{Prelude.{lookup, option_copied}, PlaceLemmas.{in_place, lookup-present}}, specs.Configs.is_name}
use Rattle.conf_state.proofs.configs.Configs.get.Goals as goal

pub returns-in_err-get : goal.returns-in_err-get
returns-in_err-get c =
    ap option_copied c.from_residual.ensures
    ∙ ap in_place c.in_err-get.ensures.value
    ∙ sym (lookup-present c.args.name.now c.self.inside.places.entries c.self.invariant)
    ∙ ap (lookup (is_name c.args.name.now)) c.self.view_is

pub returns : goal.returns
returns c =
    c.as_ref.ensures.value
    ∙ ap in_place c.in_ok-get.ensures.value
    ∙ sym (lookup-present c.args.name.now c.self.inside.places.entries c.self.invariant)
    ∙ ap (lookup (is_name c.args.name.now)) c.self.view_is
