use Rattle.std.proofs.Common.{◌≡◌, take}
use Rattle.yaml_writer.proofs.Prelude.{list_all}
use Rattle.yaml_writer.proofs.bytes.are_all_few.Given as goal

abbrev pub invariant-loop-byte : goal.invariant-loop-byte
invariant-loop-byte g l = l.all ≡ list_all g.C.ByteClass.passes (take l.byte-index l.bytes)
