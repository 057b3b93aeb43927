use Rattle.std.proofs.Common.{take}
use Rattle.tree_path.{proofs.Prelude.members_of, specs.Tables.{Lists, keys_of}}
use Rattle.tree_path.proofs.key_table.KeyTable.of_pairs.Given as goal

abbrev pub invariant-loop-place : goal.invariant-loop-place
invariant-loop-place l = Lists l.table (keys_of (members_of (take l.place l.pairs)))
