use Rattle.std.proofs.Common.{drop, map}
use Rattle.conf_record.{proofs.Prelude.{elements_after, edit_of}, specs.{Records.edit_elements, RecordsRead.AreEdits}}
use Rattle.conf_record.proofs.record.write_batch.Given as goal

-- what ends the edits from here ends them all from the start
abbrev pub invariant-loop-edit : goal.invariant-loop-edit
invariant-loop-edit g l =
    ((end : _) → g.S.Sink.Takes l.sink (elements_after (edit_elements (map edit_of (drop l.edit-index l.edits))) 2) end
    → g.S.Sink.Takes l.initial.sink (elements_after (edit_elements (map edit_of l.edits)) 2) end)
    × (AreEdits (map edit_of (drop l.edit-index l.edits)) → AreEdits (map edit_of l.edits))
