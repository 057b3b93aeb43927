use Rattle.std.proofs.Common.{None}
use Rattle.test_system.{specs.{Replay.{call_of, Called}, Log.entries}, proofs.OneMore.made_last}
use Rattle.test_system.proofs.log.CallLog.make.Goals as goal

pub returns : goal.returns
returns c = made_last (entries c.args.self.now) (entries c.keep.new.self) (Called (call_of c.args.change) None)
    c.in_ok-keep.ensures.kept
