use Rattle.std.proofs.Common.{arith}
use Rattle.yaml_style.proofs.findings.insert_style.Goals as goal

pub insert-requires : goal.insert-requires
insert-requires c = omega (arith, c.place_after-at.ensures.within, c.deref.ensures.len)
