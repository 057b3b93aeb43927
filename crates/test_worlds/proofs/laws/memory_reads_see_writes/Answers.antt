use Rattle.test_worlds.proofs.laws.memory_reads_see_writes.Goals as goal

pub returns : goal.returns
returns g c honest path name pointer =
    c.reads_see_writes.ensures.sees honest path name pointer (c.memory_worlds_keep_folders.ensures.keeps honest)
    (c.memory_worlds_keep_folders.ensures.reads honest)
