use Rattle.std.proofs.Common.{ap, ap₂, subst, ◌∙◌, length}
use Rattle.tree_edits.{proofs.{Prelude.{chars, tree_of}, Behind.whole_set}, specs.{Changes.{IsSpelled, text_of}, Parents.keys_behind}}
use Rattle.tree_edits.specs.Parents.{under_keys}
use Rattle.tree_edits.proofs.parents.with_parents.Goals as goal

pub returns-in-Ok-clause-ok : goal.returns-in-Ok-clause-ok
returns-in-Ok-clause-ok c =
    let value = tree_of c.args.value in
    let keys = ap₂ (λ x s. keys_behind (tree_of x) (chars s)) c.tree.ensures.same c.deref.ensures in
    let below = c.in-Ok.ensures.ok in
    whole_set (tree_of c.args.tree.now) (text_of c.args.path) (text_of c.set_before.result.path) value
    (tree_of c.set_before.result.value) c.in-Ok.steps
    (below.0 ∙ ap length keys)
    (c.set_before.ensures.value ∙ below.1 ∙ ap (λ ks. under_keys ks value) keys)
    (subst IsSpelled (ap chars c.deref.ensures) c.in-Ok.ensures.spelled)
    c.set_before.ensures.path c.set_before.ensures.none
