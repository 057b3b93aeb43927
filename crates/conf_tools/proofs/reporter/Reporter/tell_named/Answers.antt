-- The file is called by its name, or by a word.
use Rattle.std.proofs.Common.{◌∙◌, inl, inr, refl}
use Rattle.conf_tools.proofs.reporter.Reporter.tell_named.Goals as goal

pub returns-in-Ok : goal.returns-in-Ok
returns-in-Ok g c = (c.deref.result.now, inl (c.deref.ensures ∙ c.in-Ok.ensures), c.tell_called.ensures)

pub returns-in-Err : goal.returns-in-Err
returns-in-Err g c = (_, inr refl, c.tell_called-in-Err.ensures)
