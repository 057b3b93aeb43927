use Rattle.std.proofs.Common.{◌+◌, ◌++◌, drop, [], ◌∷◌, ap, sym, ◌∙◌, append_assoc, arith}
use Rattle.tree_hidden.{proofs.{Prelude.drop_item, PathLemmas.paths-push}, specs.{Pointers.owned_paths, Tokens.{paths_of, tokens_of}}}
use Rattle.tree_hidden.proofs.pointers.tokens_of_paths.Goals as goal

pub loop-path-preserved : goal.loop-path-preserved
loop-path-preserved c =
    let l = c.loop-path in
    let paths = c.args.paths.now in
    let all = l.all.items in
    let others = owned_paths (drop (l.path-index + 1) paths) in
    let slice = c.as_slice.result in
    let here = drop_item paths l.path-index c.path-item.result (omega arith) c.path-item.is in
    ap (λ items. paths_of items ++ others) c.in_ok-push.ensures.items
    ∙ ap (λ ps. ps ++ others) (paths-push all slice)
    ∙ append_assoc (paths_of all) (tokens_of slice.now ∷ []) others
    ∙ ap (λ tokens. paths_of all ++ (tokens_of tokens ∷ others)) c.as_slice.ensures.value
    ∙ sym (ap (λ ps. paths_of all ++ owned_paths ps) here)
    ∙ l.invariant
