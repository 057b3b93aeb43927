use Rattle.conf_state.proofs.planning.EditPlan.perform.Goals as goal

pub perform-requires-clause-leaves : goal.perform-requires-clause-leaves
perform-requires-clause-leaves c =
    let is = c.requires in
    (is.new, is.made, is.deep, is.long, is.bytes)
