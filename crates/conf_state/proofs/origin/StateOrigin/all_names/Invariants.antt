use Rattle.std.proofs.Common.{◌≡◌, ◌++◌, map}
use Rattle.conf_state.specs.{Commands.text_of, States.names_of}
use Rattle.conf_state.proofs.origin.StateOrigin.all_names.Given as goal

-- the names so far, and then those that are left, are all
abbrev pub invariant-loop-name : goal.invariant-loop-name
invariant-loop-name l = map text_of l.names.items ++ l.name-iterator ≡ names_of l.self.configs
