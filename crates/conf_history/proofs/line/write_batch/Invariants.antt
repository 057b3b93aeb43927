-- what takes the edits from here on has taken them all from the start; the mark is of ASCII
use Rattle.std.proofs.Common.{◌≡◌, [], drop, map}
use Rattle.conf_history.{proofs.Prelude.{chars, IsUtf8, edit_of}, specs.Logs.edits_words}
use Rattle.conf_history.proofs.line.write_batch.Given as goal

abbrev pub invariant-loop-edit : goal.invariant-loop-edit
invariant-loop-edit g l = record {
  text : IsUtf8 l.mark;
  ascii : chars l.mark ≡ l.mark;
  left : (end : _) → g.S.Sink.Takes l.sink (edits_words l.form l.mark (map edit_of (drop l.edit-index l.edits))) end
      → g.S.Sink.Takes l.initial.sink (edits_words l.form [] (map edit_of l.edits)) end;
}
