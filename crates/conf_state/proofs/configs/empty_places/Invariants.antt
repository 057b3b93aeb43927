use Rattle.std.proofs.Common.{◌≡◌, ◌≤◌}
use Rattle.conf_state.{proofs.Prelude.{string_eq, IsUnique, spare}, specs.{Configs.cut_each, Places.present}}
use Rattle.conf_state.proofs.configs.empty_places.Given as goal

-- what is left makes of the places what all made of them at first
abbrev pub invariant-loop-name : goal.invariant-loop-name
invariant-loop-name l =
    (cut_each l.name-iterator (present l.places.entries) ≡ cut_each l.fn.names.keys (present l.fn.places.entries))
    × (spare l.fn.places ≤ spare l.places)
    × (IsUnique string_eq l.fn.places → IsUnique string_eq l.places)
