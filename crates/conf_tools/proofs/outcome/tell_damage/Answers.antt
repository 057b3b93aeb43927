-- The first of the two lines names the fault.
use Rattle.conf_tools.proofs.outcome.tell_damage.Goals as goal

pub returns : goal.returns
returns g c = record { named = c.tell_name.new.errors; tells = c.tell_name.ensures }
