use Rattle.test_system.{specs.{Replay.NoteRead, Log.entries}, proofs.OneMore.made_last}
use Rattle.test_system.proofs.log.CallLog.read_note.Goals as goal

pub returns : goal.returns
returns c = made_last (entries c.args.self.now) (entries c.keep.new.self) NoteRead c.in_ok-keep.ensures.kept
