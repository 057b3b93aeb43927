use Rattle.std.proofs.Common.{◌≡◌, drop}
use Rattle.yaml_data.specs.Prints.{print_bytes}
use Rattle.yaml_data.proofs.prints.print_bytes.Given as goal

-- with the bytes that are left it becomes the print of all
abbrev pub invariant-loop-byte : goal.invariant-loop-byte
invariant-loop-byte l = print_bytes l.print (drop l.byte-index l.bytes) ≡ print_bytes l.before l.bytes
