use Rattle.std.proofs.Common.{subst}
use Rattle.conf_record.{proofs.{Prelude.elements_of, PieceLemmas.items_kept}, specs.Reading.AreKept}
use Rattle.conf_record.proofs.command_reader.batch_from.Goals as goal

pub edits_from-requires : goal.edits_from-requires
edits_from-requires c = items_kept (elements_of c.in-Some.items.items) (subst AreKept c.in-Some.ensures c.requires.kept).0
