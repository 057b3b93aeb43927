use Rattle.std.proofs.Common.{option_map, Vec, Global, ap, sym, ◌∙◌}
use Rattle.conf_session.specs.{Said.parts_seen, Said.parts_said, declared.parts.Part.Part}
use Rattle.conf_session.proofs.said.elements_said.Goals as goal

pub returns-in-Some : goal.returns-in-Some
returns-in-Some c = ap (λ o. parts_said (option_map (λ (v : Vec Part Global). parts_seen v.items) o))
    (sym c.in-Some.is) ∙ ap parts_said c.in_ok-found.ensures

pub returns-in-None : goal.returns-in-None
returns-in-None c = ap (λ o. parts_said (option_map (λ (v : Vec Part Global). parts_seen v.items) o))
    (sym c.in-None.is) ∙ ap parts_said c.in_ok-found.ensures
