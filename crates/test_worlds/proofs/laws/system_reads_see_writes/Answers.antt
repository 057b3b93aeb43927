use Rattle.test_worlds.proofs.laws.system_reads_see_writes.Goals as goal

pub returns : goal.returns
returns c path name pointer = c.memory_reads_see_writes.ensures tt path name pointer
