-- what takes the keys from here on has taken them all from the start
use Rattle.std.proofs.Common.{drop}
use Rattle.conf_history.{proofs.Prelude.tree_of, specs.{AboutKeys.keys_of, JsonLogs.texts_json}}
use Rattle.conf_history.proofs.json_line.write_texts.Given as goal

abbrev pub invariant-loop-key : goal.invariant-loop-key
invariant-loop-key g l =
    (end : _) → g.S.Sink.Takes l.sink (texts_json (keys_of (drop l.key-index l.keys)) (tree_of l.about)) end
    → g.S.Sink.Takes l.initial.sink (texts_json (keys_of l.keys) (tree_of l.about)) end
