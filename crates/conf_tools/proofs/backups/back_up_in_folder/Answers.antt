-- The disk was opened, used and given back.
use Rattle.std.proofs.Common.{inr}
use Rattle.conf_tools.proofs.backups.back_up_in_folder.Goals as goal

pub returns-in-Ok : goal.returns-in-Ok
returns-in-Ok g c = inr (record {
  first = c.in-Ok.disk;
  opened = c.open_new.new.world;
  opens = c.in-Ok.ensures;
  result = c.back_up-ended.result;
  gives_back = c.end_backup.ensures.back;
  ends = c.end_backup.ensures.ends;
  left = g.A.File.Read.remaining c.back_up-ended.new.reader;
  made = c.back_up-ended.ensures.made;
  refused = c.back_up-ended.ensures.refused;
  survives = c.back_up-ended.ensures.leaves;
})
