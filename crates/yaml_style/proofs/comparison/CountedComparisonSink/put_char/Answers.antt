use Rattle.std.proofs.Common.{arith}
use Rattle.yaml_style.proofs.Prelude.{on_ok_weaker}
use Rattle.yaml_style.proofs.comparison.CountedComparisonSink.put_char.Goals as goal

pub returns : goal.returns
returns c = on_ok_weaker c.put_char.result (λ compared. (compared, omega (arith, c.saturating_add-self.ensures))) c.put_char.ensures
