-- What is left has room, and what ends it from here ends all of it from the start.
use Rattle.std.proofs.Common.{◌+◌, ◌*◌, ◌<◌, drop}
use Rattle.{yaml_grammar.specs.Trees.{elements_depth, members_depth}, yaml_data.specs.Seen.{elements_of, members_of}}
use Rattle.comments_kept.specs.Weaving.{WovenElements, WovenMembers}
use Rattle.comments_kept.proofs.weave.+lines.Given as goal

abbrev pub invariant-weave_elements-loop-item : goal.invariant-weave_elements-loop-item
invariant-weave_elements-loop-item l =
    (l.indent + 2 * elements_depth (elements_of (drop l.item-index l.items)) < 18446744073709551616)
    × ((end : _) → WovenElements l.lead (elements_of (drop l.item-index l.items)) l.indent l.weaver end
    → WovenElements 0 (elements_of l.items) l.indent l.initial.weaver end)

abbrev pub invariant-weave_members-loop-key : goal.invariant-weave_members-loop-key
invariant-weave_members-loop-key l =
    (l.indent + 2 * members_depth (members_of (drop l.key-index l.pairs)) < 18446744073709551616)
    × ((end : _) → WovenMembers l.lead (members_of (drop l.key-index l.pairs)) l.indent l.weaver end
    → WovenMembers 0 (members_of l.pairs) l.indent l.initial.weaver end)
