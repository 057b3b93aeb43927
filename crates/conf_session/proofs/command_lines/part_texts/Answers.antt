use Rattle.std.proofs.Common.{codes}
use Rattle.conf_session.proofs.Prelude.{lines_of}
use Rattle.conf_session.proofs.command_lines.part_texts.Goals as goal

pub returns : goal.returns
returns c = record {
  own = lines_of c.in_ok-members.members (codes "text: ");
  spells = c.in_ok-texts.ensures;
  is = c.in_ok-members.ensures;
}
