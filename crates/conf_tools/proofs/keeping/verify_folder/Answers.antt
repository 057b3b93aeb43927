-- What could not be kept ends the word.
use Rattle.std.proofs.Common.{inl, refl}
use Rattle.conf_tools.proofs.keeping.verify_folder.Goals as goal

pub returns : goal.returns
returns g c = rw c.in-Some.is (inl (record { cannot = c.in-Err.ensures.refused; keeps = refl }))
