use Rattle.std.proofs.Common.{rules, refl, arith}
use Rattle.conf_record.proofs.Prelude.{chars-IsText}
use Rattle.conf_record.proofs.lines.value_on.Goals as goal

pub returns : goal.returns
returns c =
    record {
      is = c.in_ok-text.ensures;
      bytes = refl;
      short = omega arith;
      texts = chars-IsText c.in_ok-text.text.now (search rules);
    }
