use Rattle.test_worlds.proofs.laws.system_runs_hold.Goals as goal

pub returns : goal.returns
returns c path = c.memory_runs_hold.ensures tt path
