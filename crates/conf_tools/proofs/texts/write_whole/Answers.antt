-- What was written is kept by the flush.
use Rattle.conf_tools.proofs.{Formatting.then_kept, PartLemmas.part_whole}
use Rattle.conf_tools.proofs.texts.write_whole.Goals as goal

pub returns-in-Ok-flush-clause-ok : goal.returns-in-Ok-flush-clause-ok
returns-in-Ok-flush-clause-ok g c =
    then_kept _ (g.W.Write.contents c.write_or_count.new.writer) _ c.args.bytes.now c.in-Ok.ensures.whole c.flush.ensures.bytes

pub returns-in-Err-clause-part : goal.returns-in-Err-clause-part
returns-in-Err-clause-part g c = (_, c.in-Err.ensures.prefix)

pub returns-in-Err-flush-clause-part : goal.returns-in-Err-flush-clause-part
returns-in-Err-flush-clause-part g c =
    part_whole _ _ c.args.bytes.now
    (then_kept _ (g.W.Write.contents c.write_or_count.new.writer) _ c.args.bytes.now c.in-Ok.ensures.whole c.flush.ensures.bytes)
