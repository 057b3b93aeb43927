use Rattle.std.proofs.Common.{◌≡◌, take, map}
use Rattle.{conf_disk.specs.{Image.folder_of_image, Log.folder_after}, test_disks.specs.Replay.{folder_of, step_of, image_of}}
use Rattle.test_disks.proofs.memory.MemoryDisk.replay.Given as goal

abbrev pub invariant-loop-change : goal.invariant-loop-change
invariant-loop-change l =
    folder_of l.folder ≡ folder_after (map step_of (take l.change-index l.self.changes.items)) (folder_of_image (image_of l.self.start))
