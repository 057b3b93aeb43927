use Rattle.std.proofs.Common.{Ok, sym, ap, ◌∙◌}
use Rattle.tree_path.proofs.Prelude.{mapping, tree_of, members_of, tree_of-Map}
use Rattle.tree_path.proofs.key_index.index_of.Goals as goal

pub returns-in-Ok : goal.returns-in-Ok
returns-in-Ok c =
    c.in-Ok.ensures (tree_of c.args.tree.now)
    (c.in-Ok-Map.ensures.ok ∙ ap (λ x. Ok (tree_of x)) c.in-Ok-Map.field-0-is ∙ ap Ok (tree_of-Map c.in-Ok-Map.pairs)
    ∙ ap (λ w. Ok (mapping (members_of w.items))) (sym c.in-Ok-Map.pairs-is)
    ∙ ap (λ xs. Ok (mapping (members_of xs))) (sym c.deref.ensures.value))
