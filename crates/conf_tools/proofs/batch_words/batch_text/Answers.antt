-- The text that was read is the one whose edits are made.
use Rattle.std.proofs.Common.{subst}
use Rattle.conf_tools.specs.Performs.{BatchesBytes}
use Rattle.conf_tools.proofs.batch_words.batch_text.Goals as goal

pub returns-in-Ok-clause-makes : goal.returns-in-Ok-clause-makes
returns-in-Ok-clause-makes g c = rw (c.in-Ok.is)
    (subst (λ bytes. BatchesBytes g.A.World.model g.A.Disk.Disk.model c.args.about c.args.asked.folder.now c.args.asked.count bytes
    c.args.world.now c.batch_bytes.new.world c.batch_bytes.result)
    c.deref.ensures.value c.batch_bytes.ensures.makes)
