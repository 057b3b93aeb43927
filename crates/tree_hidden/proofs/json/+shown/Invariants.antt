use Rattle.std.proofs.Common.{◌≡◌, [], drop}
use Rattle.tree_hidden.{proofs.Prelude.{chars, IsUtf8, elements_of, members_of}, specs.Hidden.{shown_elements, shown_members}}
use Rattle.tree_hidden.specs.Tokens.{paths_of}
use Rattle.tree_hidden.proofs.json.+shown.Given as goal

-- what takes the elements from here on has taken them all from the start, after the bracket; what leads is of ASCII
abbrev pub invariant-write_array-loop-index : goal.invariant-write_array-loop-index
invariant-write_array-loop-index g l = record {
  text : IsUtf8 l.lead;
  ascii : chars l.lead ≡ l.lead;
  left : (end : _) → g.S.Sink.Takes l.sink (shown_elements (paths_of l.paths) l.lead l.index (elements_of (drop l.index l.items))) end
      → g.S.Sink.Takes l.initial.sink (shown_elements (paths_of l.paths) [] 0 (elements_of l.items)) end;
}

-- what takes the members from here on has taken them all from the start, after the brace; what leads is of ASCII
abbrev pub invariant-write_object-loop-key : goal.invariant-write_object-loop-key
invariant-write_object-loop-key g l = record {
  text : IsUtf8 l.lead;
  ascii : chars l.lead ≡ l.lead;
  left : (end : _) → g.S.Sink.Takes l.sink (shown_members (paths_of l.paths) l.lead (members_of (drop l.key-index l.pairs))) end
      → g.S.Sink.Takes l.initial.sink (shown_members (paths_of l.paths) [] (members_of l.pairs)) end;
}
