use Rattle.std.proofs.Common.{◌+◌, ◌*◌, ◌<◌, drop}
use Rattle.yaml_writer.proofs.{Prelude.{elements_depth, members_depth, elements_of, members_of}, WalkLemmas.{elements_led, members_led}}
use Rattle.yaml_writer.proofs.style.+lines.Given as goal

-- what is left has room, and what ends its lines from here ends all lines from the start
abbrev pub invariant-write_elements-loop-item : goal.invariant-write_elements-loop-item
invariant-write_elements-loop-item g l =
    (l.indent + 2 * elements_depth (elements_of (drop l.item-index l.items)) < 18446744073709551616)
    × ((end : _) → g.S.Sink.Takes l.sink (elements_led l.lead (elements_of (drop l.item-index l.items)) l.indent) end
    → g.S.Sink.Takes l.initial.sink (elements_led 0 (elements_of l.items) l.indent) end)

abbrev pub invariant-write_members-loop-key : goal.invariant-write_members-loop-key
invariant-write_members-loop-key g l =
    (l.indent + 2 * members_depth (members_of (drop l.key-index l.pairs)) < 18446744073709551616)
    × ((end : _) → g.S.Sink.Takes l.sink (members_led l.lead (members_of (drop l.key-index l.pairs)) l.indent) end
    → g.S.Sink.Takes l.initial.sink (members_led 0 (members_of l.pairs) l.indent) end)
