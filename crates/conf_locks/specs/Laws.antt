-- What follows from the rules alone, whatever calls which runs make.
use Rattle.std.specs.Prelude.{◌≡◌, ℕ, List}
use Rattle.conf_locks.specs.Locks.{Locks, Event, after_all, AreMade, AreKeptBy, Holds}

-- A run that holds a store does so until it lets go, and meanwhile no other one does.
abbrev pub RunsStay : Type 0
RunsStay = (run file : ℕ) (locks : Locks) (events : List Event) → Holds run file locks → AreMade events locks
    → AreKeptBy run events → Holds run file (after_all events locks)

abbrev pub RunsExclude : Type 0
RunsExclude = (run other file other_file : ℕ) (locks : Locks) (events : List Event) → Holds run file locks
    → AreMade events locks → AreKeptBy run events → Holds other other_file (after_all events locks) → other ≡ run
