use Rattle.test_worlds.proofs.laws.memory_runs_hold.Goals as goal

pub returns : goal.returns
returns g c honest path = c.runs_hold.ensures honest path (c.memory_worlds_keep_folders.ensures.keeps honest)
