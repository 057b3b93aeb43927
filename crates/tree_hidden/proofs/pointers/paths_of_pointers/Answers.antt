use Rattle.std.proofs.{Common.{◌+◌, drop, map, ap, ◌∙◌}, lemmas.List.drop_more}
use Rattle.tree_hidden.{proofs.PointerLemmas.{after_paths, next-read, owned-push}, specs.Pointers.{owned_paths, paths_or}}
use Rattle.tree_hidden.specs.Tokens.{tokens_of}
use Rattle.tree_hidden.proofs.pointers.paths_of_pointers.Goals as goal

pub loop-place-preserved : goal.loop-place-preserved
loop-place-preserved c =
    let l = c.loop-place in
    let pointers = c.args.pointers.now in
    let before = owned_paths l.paths.items in
    let path = c.in-Ok.path in
    let others = drop (l.place + 1) pointers in
    ap (λ items. after_paths (owned_paths items) (paths_or (map (λ pointer. pointer.now) others))) c.in_ok-push-in-Ok.ensures.items
    ∙ ap (λ ps. after_paths ps (paths_or (map (λ pointer. pointer.now) others))) (owned-push l.paths.items path)
    ∙ next-read (drop l.place pointers) others _ before (tokens_of path.items) (drop_more pointers l.place _ c.loop-place-test.true)
    c.in-Ok.ensures.ok
    ∙ l.invariant
