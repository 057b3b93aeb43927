use Rattle.std.proofs.Common.{codes, refl, sym, ap, ◌∙◌}
use Rattle.conf_record.{proofs.Prelude.ascii, specs.Formats.format_line}
use Rattle.conf_record.proofs.format.Format.line.Goals as goal

pub returns-in-Second : goal.returns-in-Second
returns-in-Second c = ascii (codes "store: confstore-2\n") refl ∙ sym (ap format_line c.in-Second.is)

pub returns-in-Third : goal.returns-in-Third
returns-in-Third c = ascii (codes "store: confstore-3\n") refl ∙ sym (ap format_line c.in-Third.is)
