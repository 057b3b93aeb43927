use Rattle.std.proofs.Common.{drop, map}
use Rattle.conf_diff.proofs.Prelude.{elements_after, edit_elements, edit_of}
use Rattle.conf_diff.proofs.text.write_lines.Given as goal

-- what ends the edits from here ends them all from the start
abbrev pub invariant-loop-edit : goal.invariant-loop-edit
invariant-loop-edit g l =
    (end : _) → g.S.Sink.Takes l.sink (elements_after (edit_elements (map edit_of (drop l.edit-index l.edits))) 0) end
    → g.S.Sink.Takes l.initial.sink (elements_after (edit_elements (map edit_of l.edits)) 0) end
