use Rattle.std.proofs.Common.{refl}
use Rattle.conf_disk.proofs.Worn.{IsWorn-prefix}
use Rattle.conf_system.proofs.laws.prefixes_are_left.Goals as goal

pub returns : goal.returns
returns c version keep zeros fits = record { left = _; worn = IsWorn-prefix version.pending keep zeros fits; is = refl }
