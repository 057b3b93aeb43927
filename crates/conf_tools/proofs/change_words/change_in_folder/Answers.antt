-- The disk was opened, used and given back.
use Rattle.std.proofs.Common.{inr}
use Rattle.conf_tools.proofs.change_words.change_in_folder.Goals as goal

pub returns-in-Ok-clause-makes : goal.returns-in-Ok-clause-makes
returns-in-Ok-clause-makes g c = inr (record {
  first = c.in-Ok.disk;
  opened = c.open.new.self;
  opens = c.in-Ok.ensures;
  result = c.change_store-ended.result;
  gives_back = c.end_change.ensures.back;
  ends = c.end_change.ensures.ends;
  made = c.change_store-ended.ensures.made;
  refused = c.change_store-ended.ensures.refused;
  survives = c.change_store-ended.ensures.crashes;
})
