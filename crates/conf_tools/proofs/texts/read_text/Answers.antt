-- What was read is a text, or why not.
use Rattle.conf_tools.proofs.texts.read_text.Goals as goal

pub returns : goal.returns
returns g c = record { ok = c.read_up_to.ensures.ok; faults = c.read_up_to.ensures.faults; bounded = c.read_up_to.ensures.bounded }
