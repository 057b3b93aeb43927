use Rattle.std.proofs.Common.{is_some, ap, sym, ◌∙◌}
use Rattle.conf_state.proofs.{Prelude.{chars, tree_of}, EditLemmas.found-good, StepLemmas.is_some-mapped}
use Rattle.conf_state.proofs.in_place.InPlaceEditor.has.Goals as goal

pub returns-clause-found : goal.returns-clause-found
returns-clause-found c =
    c.is_some.ensures ∙ sym (is_some-mapped (λ config. tree_of config.now) c.get.result) ∙ ap is_some c.get.ensures.found

pub returns-clause-named : goal.returns-clause-named
returns-clause-named c = λ there.
    found-good c.args.target.now.configs (chars c.args.name.now) c.get.ensures.limits.configs (sym (returns-clause-found c) ∙ there)
