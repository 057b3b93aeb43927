use Rattle.std.proofs.Common.{◌≡◌, ◌+◌, drop}
use Rattle.tree_diff.{proofs.Prelude.members_of, specs.Choices.kept}
use Rattle.tree_diff.proofs.whole.kept.Given as goal

abbrev pub invariant-loop-key : goal.invariant-loop-key
invariant-loop-key l =
    l.kept + kept (members_of (drop l.key-index l.first)) (members_of (drop l.kept l.second))
    ≡ kept (members_of l.first) (members_of l.second)
