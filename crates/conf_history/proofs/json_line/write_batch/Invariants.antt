-- what takes the edits from here on has taken them all from the start; the lead is of ASCII
use Rattle.std.proofs.Common.{◌≡◌, [], drop, map}
use Rattle.conf_history.{proofs.Prelude.{chars, IsUtf8, edit_of}, specs.JsonLogs.edits_json}
use Rattle.conf_history.proofs.json_line.write_batch.Given as goal

abbrev pub invariant-loop-edit : goal.invariant-loop-edit
invariant-loop-edit g l = record {
  text : IsUtf8 l.lead;
  ascii : chars l.lead ≡ l.lead;
  left : (end : _) → g.S.Sink.Takes l.sink (edits_json l.lead (map edit_of (drop l.edit-index l.edits))) end
      → g.S.Sink.Takes l.initial.sink (edits_json [] (map edit_of l.edits)) end;
}
