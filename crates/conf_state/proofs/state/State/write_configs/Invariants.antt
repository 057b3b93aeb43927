use Rattle.conf_state.{proofs.Prelude.members_after, specs.{BaseTexts.members, Kept.entries_of}}
use Rattle.conf_state.proofs.state.State.write_configs.Given as goal

-- what ends the configurations from here ends them all from the start
abbrev pub invariant-loop-name : goal.invariant-loop-name
invariant-loop-name g l =
    (end : _) → g.S.Sink.Takes l.sink (members_after (members (entries_of l.name-iterator)) 2) end
    → g.S.Sink.Takes l.initial.sink (members_after (members l.self.configs) 2) end
