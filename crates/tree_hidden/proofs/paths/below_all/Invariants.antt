use Rattle.std.proofs.Common.{◌≡◌, drop}
use Rattle.tree_hidden.specs.{Hidden.below_all, Tokens.{paths_of, tokens_of}}
use Rattle.tree_hidden.proofs.paths.below_all.Given as goal

abbrev pub invariant-loop-token : goal.invariant-loop-token
invariant-loop-token l =
    below_all (tokens_of (drop l.token-index l.place)) (paths_of l.left.items)
    ≡ below_all (tokens_of l.place) (paths_of l.paths)
