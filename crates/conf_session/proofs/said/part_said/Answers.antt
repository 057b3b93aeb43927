use Rattle.std.proofs.Common.{option_map, ap, sym, ◌∙◌}
use Rattle.conf_session.specs.Said.{part_seen, part_said}
use Rattle.conf_session.proofs.said.part_said.Goals as goal

pub returns-in-Some : goal.returns-in-Some
returns-in-Some c = ap (λ o. part_said (option_map part_seen o)) (sym c.in-Some.is) ∙ ap part_said c.in_ok-found.ensures

pub returns-in-None : goal.returns-in-None
returns-in-None c = ap (λ o. part_said (option_map part_seen o)) (sym c.in-None.is) ∙ ap part_said c.in_ok-found.ensures
