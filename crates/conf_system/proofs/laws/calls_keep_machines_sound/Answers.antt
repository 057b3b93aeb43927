use Rattle.conf_system.proofs.Sound.{call-sound, failure-sound}
use Rattle.conf_system.proofs.laws.calls_keep_machines_sound.Goals as goal

pub returns-clause-done : goal.returns-clause-done
returns-clause-done c = call-sound

pub returns-clause-failed : goal.returns-clause-failed
returns-clause-failed c = failure-sound
