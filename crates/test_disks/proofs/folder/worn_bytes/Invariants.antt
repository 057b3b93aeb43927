use Rattle.std.proofs.Common.{◌≡◌, take}
use Rattle.conf_disk.specs.Image.{with_zeros}
use Rattle.test_disks.proofs.folder.worn_bytes.Given as goal

abbrev pub invariant-loop-place : goal.invariant-loop-place
invariant-loop-place l = l.worn.items ≡ with_zeros (take l.place-index l.places) l.bytes
