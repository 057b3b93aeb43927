use Rattle.std.proofs.Common.{sym, ◌∙◌}
use Rattle.conf_record.proofs.lines.name_on.Goals as goal

pub returns : goal.returns
returns c = record { is = c.in_ok-name.ensures; good = sym c.good_name.ensures.named ∙ c.if-not-good_name.false }
