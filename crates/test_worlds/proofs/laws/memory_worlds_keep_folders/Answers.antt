use Rattle.test_worlds.proofs.Kept.{keeps-folders, hands-out-none, shows-folders}
use Rattle.test_worlds.proofs.laws.memory_worlds_keep_folders.Goals as goal

pub returns-clause-keeps : goal.returns-clause-keeps
returns-clause-keeps g c honest = keeps-folders g.D.Disk.model honest

pub returns-clause-none : goal.returns-clause-none
returns-clause-none g c honest = hands-out-none g.D.Disk.model honest

pub returns-clause-reads : goal.returns-clause-reads
returns-clause-reads g c honest = shows-folders g.D.Disk.model honest c.reading_is_an_image.ensures
