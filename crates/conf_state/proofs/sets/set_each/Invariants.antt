use Rattle.std.proofs.Common.{◌≡◌, List, map}
use Rattle.conf_state.{proofs.Prelude.into_iter_items, specs.{Commands.edit_of, Kept.entries_of, States.Entry, Steps.all_edited}}
use Rattle.conf_state.specs.Trails.{AreSets, IsHeld, Trail}
use Rattle.conf_state.proofs.sets.set_each.Given as goal

-- the edits that are left make of the configurations what all make of those at first, and what was made can be undone
abbrev pub invariant-loop-edit : goal.invariant-loop-edit
invariant-loop-edit l =
    IsHeld l.configs l.sets.length
    × AreSets (into_iter_items l.edit-iterator)
    × (all_edited (entries_of l.configs) (map edit_of (into_iter_items l.edit-iterator))
    ≡ all_edited (entries_of l.fn.configs) (map edit_of l.fn.edits.items))
    × ((start : List Entry) → Trail start l.fn.sets.made.items (entries_of l.fn.configs)
    → Trail start l.sets.made.items (entries_of l.configs))
