use Rattle.std.proofs.Common.{arith}
use Rattle.yaml_style.proofs.Prelude.{on_ok_weaker, byte_len-chars}
use Rattle.yaml_style.proofs.comparison.CountedComparisonSink.put_text.Goals as goal

pub returns : goal.returns
returns c = on_ok_weaker c.put_text.result (λ compared.
    (compared, omega (arith, byte_len-chars c.args.text.now c.utf8.text, c.saturating_add-self.ensures))) c.put_text.ensures
