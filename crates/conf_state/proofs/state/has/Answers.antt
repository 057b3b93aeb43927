use Rattle.std.proofs.Common.{◌≡◌, Bor, Option, Some, None, is_some, option_map, option_copied, refl, ap, ◌∙◌}
use Rattle.{conf_state.proofs.{Prelude.tree_of, EntryLemmas.lookup-named}, yaml_data.specs.declared.tree.Tree.Tree}
use Rattle.conf_state.proofs.state.has.Goals as goal

mapped : (found : Option (Bor Tree)) → is_some found ≡ is_some (option_map tree_of (option_copied found))
mapped (Some config) = refl
mapped None = refl

pub returns : goal.returns
returns c =
    c.is_some.ensures ∙ mapped c.get.result ∙ ap (λ o. is_some (option_map tree_of o)) c.get.ensures
    ∙ ap is_some (lookup-named c.args.name.now c.utf8.name c.args.configs.now c.requires)
