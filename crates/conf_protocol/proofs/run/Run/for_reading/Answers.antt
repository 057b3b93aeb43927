use Rattle.std.proofs.Common.{refl}
use Rattle.conf_protocol.proofs.run.Run.for_reading.Goals as goal

pub invariant_of-result : goal.invariant_of-result
invariant_of-result g c = record {
  known = λ h. record {
    one = λ is. cc;
    plain = λ may. cc;
    apart = λ may. cc;
    settled = λ is. cc;
    store_so = refl;
    next_so = refl;
    noted = λ is. refl;
    told = λ may. cc;
  };
  safe = c.requires.safe;
  noted = λ h note is. cc;
}
