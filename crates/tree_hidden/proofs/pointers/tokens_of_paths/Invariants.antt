use Rattle.std.proofs.Common.{◌≡◌, ◌++◌, drop}
use Rattle.tree_hidden.specs.{Pointers.owned_paths, Tokens.paths_of}
use Rattle.tree_hidden.proofs.pointers.tokens_of_paths.Given as goal

abbrev pub invariant-loop-path : goal.invariant-loop-path
invariant-loop-path l = paths_of l.all.items ++ owned_paths (drop l.path-index l.paths) ≡ owned_paths l.paths
