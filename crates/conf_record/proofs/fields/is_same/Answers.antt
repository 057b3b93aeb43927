use Rattle.std.proofs.Common.{◌∙◌}
use Rattle.conf_record.proofs.FieldLemmas.{same_bytes}
use Rattle.conf_record.proofs.fields.is_same.Goals as goal

pub returns : goal.returns
returns c = c.eq.ensures ∙ same_bytes c.args.one.now c.args.other.now c.utf8.one c.utf8.other
