use Rattle.std.proofs.Common.{arith}
use Rattle.yaml_style.proofs.Prelude.{on_ok_weaker, byte_len-spaces}
use Rattle.yaml_style.proofs.comparison.CountedComparisonSink.put_spaces.Goals as goal

pub returns : goal.returns
returns c = on_ok_weaker c.put_spaces.result
    (λ compared. (compared, omega (arith, byte_len-spaces c.args.count, c.saturating_add-self.ensures))) c.put_spaces.ensures
