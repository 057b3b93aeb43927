-- The disk was opened, used and given back.
use Rattle.std.proofs.Common.{inr}
use Rattle.conf_tools.proofs.read_words.save_in_folder.Goals as goal

pub returns-in-Ok : goal.returns-in-Ok
returns-in-Ok g c = inr (record {
  first = c.in-Ok.disk;
  opened = c.open_new.new.world;
  opens = c.in-Ok.ensures;
  result = c.salvage-saved.result;
  gives_back = c.write_saved.ensures.back;
  writes = c.write_saved.ensures.writes;
  left = g.A.File.Read.remaining c.salvage-saved.new.reader;
  saved = c.salvage-saved.ensures.saved;
  refused = c.salvage-saved.ensures.refused;
  survives = c.salvage-saved.ensures.leaves;
})
