use Rattle.std.proofs.Common.{drop}
use Rattle.yaml_forms.proofs.{Prelude.{elements_of, members_of}, WalkLemmas.{elements_led, members_led}}
use Rattle.yaml_forms.proofs.json_tree.+json.Given as goal

-- what ends the elements that are left ends all of them from the start
abbrev pub invariant-write_array-loop-item : goal.invariant-write_array-loop-item
invariant-write_array-loop-item g l =
    (end : _) → g.S.Sink.Takes l.sink (elements_led l.lead (elements_of (drop l.item-index l.items))) end
    → g.S.Sink.Takes l.initial.sink (elements_led 91 (elements_of l.items)) end

-- what ends the members that are left ends all of them from the start
abbrev pub invariant-write_object-loop-key : goal.invariant-write_object-loop-key
invariant-write_object-loop-key g l =
    (end : _) → g.S.Sink.Takes l.sink (members_led l.lead (members_of (drop l.key-index l.pairs))) end
    → g.S.Sink.Takes l.initial.sink (members_led 123 (members_of l.pairs)) end
