use Rattle.std.proofs.Common.{◌≡◌, length, drop}
use Rattle.tree_path.{proofs.Prelude.chars, specs.Tables.hash_after}
use Rattle.tree_path.proofs.key_table.KeyTable.bucket.Given as goal

abbrev pub invariant-loop-c : goal.invariant-loop-c
invariant-loop-c l = hash_after 0x0100_0193 l.hash (drop (length l.yielded) (chars l.key)) ≡ hash_after 0x0100_0193 0 (chars l.key)
