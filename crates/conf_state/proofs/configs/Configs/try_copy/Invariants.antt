use Rattle.std.proofs.Common.{◌≡◌, ◌++◌}
use Rattle.conf_state.specs.Kept.{entries_of, ArePlain}
use Rattle.conf_state.proofs.configs.Configs.try_copy.Given as goal

-- what is copied, and then what is left, are all configurations
abbrev pub invariant-loop-name : goal.invariant-loop-name
invariant-loop-name l =
    (entries_of l.copy ++ entries_of l.name-iterator ≡ entries_of l.self) × ArePlain l.copy × ArePlain l.name-iterator
