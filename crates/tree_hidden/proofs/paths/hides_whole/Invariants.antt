-- what the paths that are left say is what all say
use Rattle.std.proofs.Common.{◌≡◌, drop}
use Rattle.tree_hidden.specs.{Hidden.hides_whole, Tokens.paths_of}
use Rattle.tree_hidden.proofs.paths.hides_whole.Given as goal

abbrev pub invariant-loop-path : goal.invariant-loop-path
invariant-loop-path l = hides_whole (paths_of (drop l.path-index l.paths)) ≡ hides_whole (paths_of l.paths)
