use Rattle.std.proofs.Common.{sym, ap, ◌∙◌}
use Rattle.tree_edits.{proofs.{Prelude.{chars, key_in, tree_of, tree_of-Map}, Behind.lacks-Map}, specs.Parents.lacks}
use Rattle.tree_edits.proofs.parents.lacks.Goals as goal

pub returns-in-Map : goal.returns-in-Map
returns-in-Map c =
    let key = chars c.args.key.now in
    let seen = ap tree_of c.in-Map.is ∙ tree_of-Map c.in-Map.field-0 in
    lacks-Map c.in-Map.field-0.items key c.key_in.result c.is_none.result
    (c.key_in.ensures ∙ ap (λ t. key_in t key) seen) c.is_none.ensures
    ∙ sym (ap (λ t. lacks t key) seen)
