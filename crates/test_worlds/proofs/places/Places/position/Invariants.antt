use Rattle.std.proofs.Common.{◌≢◌, ◌<◌, ℕ}
use Rattle.test_worlds.specs.{Entries.entry_at, Places.entries_of}
use Rattle.test_worlds.proofs.places.Places.position.Given as goal

abbrev pub invariant-loop-place : goal.invariant-loop-place
invariant-loop-place g l = (other : ℕ) → other < l.place → (entry_at (entries_of g.D.Disk.model l.self) other).path ≢ l.path
