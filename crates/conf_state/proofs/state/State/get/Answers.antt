use Rattle.std.proofs.Common.{Option, Some, None, Bor, option_map, option_copied, ◌≡◌, refl, ap, subst, ◌∙◌}
use Rattle.conf_state.{proofs.{Prelude.{chars, tree_of}, EntryLemmas.lookup-named}, specs.{Limits.IsState, States.config_named}}
use Rattle.yaml_data.specs.declared.tree.Tree.{Tree}
use Rattle.conf_state.proofs.state.State.get.Goals as goal

seen : (found : Option (Bor Tree)) → option_map (λ config. tree_of config.now) found ≡ option_map tree_of (option_copied found)
seen (Some config) = refl
seen None = refl

pub returns-clause-found : goal.returns-clause-found
returns-clause-found c =
    seen c.get.result ∙ ap (option_map tree_of) c.get.ensures
    ∙ lookup-named c.args.name.now c.utf8.name c.self.inside.configs c.self.invariant.plain
    ∙ ap (λ s. config_named s.configs (chars c.args.name.now)) c.self.view_is

pub returns-clause-limits : goal.returns-clause-limits
returns-clause-limits c = subst IsState c.self.view_is c.self.invariant.state
