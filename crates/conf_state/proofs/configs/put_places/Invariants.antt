use Rattle.std.proofs.Common.{◌≡◌, ◌≤◌, length}
use Rattle.conf_state.{proofs.Prelude.{string_eq, IsUnique, spare}, specs.{Configs.put_each, Places.present}}
use Rattle.conf_state.proofs.configs.put_places.Given as goal

-- what is left makes of the places what all made of them at first, and there is room for it
abbrev pub invariant-loop-name : goal.invariant-loop-name
invariant-loop-name l =
    (put_each (present l.name-iterator) (present l.places.entries) ≡ put_each (present l.fn.put.entries) (present l.fn.places.entries))
    × (length l.name-iterator ≤ spare l.places)
    × (IsUnique string_eq l.fn.places → IsUnique string_eq l.places)
