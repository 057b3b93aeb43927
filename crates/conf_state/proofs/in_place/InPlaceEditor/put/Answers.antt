use Rattle.conf_state.proofs.in_place.InPlaceEditor.put.Goals as goal

pub returns : goal.returns
returns c = record { ok = c.put.ensures.ok; refused = c.put.ensures.refused; unchanged = c.put.ensures.unchanged }
