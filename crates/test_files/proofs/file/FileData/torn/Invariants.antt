use Rattle.std.proofs.Common.{◌≡◌, ◌++◌, take}
use Rattle.test_files.specs.Crashes.{worn}
use Rattle.test_files.proofs.file.FileData.torn.Given as goal

abbrev pub invariant-loop-place : goal.invariant-loop-place
invariant-loop-place l = l.bytes.items ≡ l.self.device.items ++ worn l.self.pending.items (take l.place l.kept)
