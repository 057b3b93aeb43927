-- How a run ends, as the crates above name it.
use Rattle.conf_tools.specs.declared.outcome.Ending.{Ending}

abbrev pub EndOfRun : Type 0
EndOfRun = Ending
