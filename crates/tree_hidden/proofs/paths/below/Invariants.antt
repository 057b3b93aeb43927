-- what is found so far, and what is left to look at, is what is found at the end
use Rattle.std.proofs.Common.{◌≡◌, ◌++◌, drop}
use Rattle.tree_hidden.{proofs.Prelude.chars, specs.{Hidden.below, Tokens.paths_of}}
use Rattle.tree_hidden.proofs.paths.below.Given as goal

abbrev pub invariant-loop-path : goal.invariant-loop-path
invariant-loop-path l =
    paths_of l.left.items ++ below (chars l.token) (paths_of (drop l.path-index l.paths))
    ≡ below (chars l.token) (paths_of l.paths)
