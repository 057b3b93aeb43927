use Rattle.std.proofs.Common.{◌≡◌, ◌<◌, ◌≤◌, ◌+◌, ◌-◌, ℕ, suc, length, get_or}
use Rattle.tree_path.proofs.key_table.KeyTable.removed_before.Given as goal

abbrev pub invariant-loop-low : goal.invariant-loop-low
invariant-loop-low l =
    (l.low ≤ l.high) × (l.high ≤ length l.self.removed.items)
    × ((before : ℕ) → suc before ≡ l.low → get_or l.self.removed.items before 0 < l.place + l.low)
    × (l.high < length l.self.removed.items → l.place + l.high < get_or l.self.removed.items l.high 0)

abbrev pub decreases-loop-low : goal.decreases-loop-low
decreases-loop-low l = l.high - l.low
