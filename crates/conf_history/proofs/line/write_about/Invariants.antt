-- what takes the keys from here on has taken them all from the start
use Rattle.std.proofs.Common.{drop}
use Rattle.conf_history.{proofs.Prelude.tree_of, specs.{AboutKeys.keys_of, Logs.about_words}}
use Rattle.conf_history.proofs.line.write_about.Given as goal

abbrev pub invariant-loop-key : goal.invariant-loop-key
invariant-loop-key g l =
    (end : _) → g.S.Sink.Takes l.sink (about_words (keys_of (drop l.key-index l.shown)) (tree_of l.about)) end
    → g.S.Sink.Takes l.initial.sink (about_words (keys_of l.shown) (tree_of l.about)) end
