-- The disk was opened, used and given back.
use Rattle.std.proofs.Common.{inr, Some}
use Rattle.conf_tools.proofs.keeping.save_bytes.Goals as goal

pub returns-in-Ok : goal.returns-in-Ok
returns-in-Ok g c = inr (record {
  first = c.in-Ok.disk;
  opened = c.open_new.new.world;
  opens = c.in-Ok.ensures;
  result = c.salvage-saved.result;
  gives_back = c.write_saved.ensures.back;
  writes = c.write_saved.ensures.writes;
  left = Some c.salvage-saved.new.reader.now;
  saved = c.salvage-saved.ensures.saved;
  refused = c.salvage-saved.ensures.refused;
  survives = c.salvage-saved.ensures.leaves;
})
