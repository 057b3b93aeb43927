-- what is read so far, and what is left, is what all give
use Rattle.std.proofs.Common.{◌≡◌, drop, map}
use Rattle.tree_hidden.{proofs.PointerLemmas.after_paths, specs.Pointers.{owned_paths, paths_or}}
use Rattle.tree_hidden.proofs.pointers.paths_of_pointers.Given as goal

abbrev pub invariant-loop-place : goal.invariant-loop-place
invariant-loop-place l =
    after_paths (owned_paths l.paths.items) (paths_or (map (λ pointer. pointer.now) (drop l.place l.pointers)))
    ≡ paths_or (map (λ pointer. pointer.now) l.pointers)
