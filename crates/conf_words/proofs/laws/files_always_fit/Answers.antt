-- The law itself.
use Rattle.conf_words.proofs.FitLemmas.{always_fit}
use Rattle.conf_words.proofs.laws.files_always_fit.Goals as goal

pub returns : goal.returns
returns c = record { fit = always_fit }
