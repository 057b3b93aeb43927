use Rattle.std.proofs.Common.{◌≡◌, ℕ, true, Some, length}
use Rattle.tree_path.{proofs.Prelude.chars, specs.{Steps.key_place, Tables.{chain_of, on_chain, place_at}}}
use Rattle.tree_path.proofs.key_table.KeyTable.find.Given as goal

abbrev pub invariant-loop-link : goal.invariant-loop-link
invariant-loop-link l =
    (n : ℕ) → on_chain l.self.before.items (length l.self.before.items) (chain_of l.self.newest.items (chars l.key)) n ≡ true
    → key_place (chars l.key) l.pairs ≡ Some (place_at l.self.removed.items n) → on_chain l.self.before.items l.link l.link n ≡ true

abbrev pub decreases-loop-link : goal.decreases-loop-link
decreases-loop-link l = l.link
