-- The disk was opened, used and given back.
use Rattle.std.proofs.Common.{inr}
use Rattle.conf_tools.proofs.program.export_folder.Goals as goal

pub returns-in-Ok-clause-exports : goal.returns-in-Ok-clause-exports
returns-in-Ok-clause-exports g c = inr (record {
  first = c.in-Ok.disk;
  opened = c.open.new.self;
  opens = c.in-Ok.ensures;
  result = c.export_text-found.result;
  gives_back = c.write_found.ensures.back;
  writes = c.write_found.ensures.writes;
  found = c.export_text-found.ensures.ok;
  refused = c.export_text-found.ensures.refused;
  survives = c.export_text-found.ensures.crashes;
})
