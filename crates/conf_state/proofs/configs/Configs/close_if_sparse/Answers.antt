use Rattle.std.proofs.Common.{ap, ◌∙◌}
use Rattle.conf_state.{specs.Places.present, proofs.PlaceLemmas.present-closed}
use Rattle.conf_state.proofs.configs.Configs.close_if_sparse.Goals as goal

pub returns-then-self-len : goal.returns-then-self-len
returns-then-self-len c =
    ap present (c.shrink_to.ensures.entries ∙ c.close_empty.ensures.entries) ∙ present-closed c.self.inside.places.entries ∙ c.self.view_is
