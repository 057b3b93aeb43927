-- What could not be kept ends the word.
use Rattle.std.proofs.Common.{inl, refl}
use Rattle.conf_tools.proofs.keeping.salvage_to.Goals as goal

pub returns-in-Err : goal.returns-in-Err
returns-in-Err g c = rw c.in-Some.is (inl (record { cannot = c.in-Err.ensures.refused; keeps = refl }))
