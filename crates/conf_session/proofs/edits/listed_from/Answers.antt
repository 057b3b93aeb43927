-- An import with its tree, or a part of a batch.
use Rattle.std.proofs.Common.{◌≡◌, false, true, sym, ◌∙◌}
use Rattle.conf_session.proofs.{Prelude.{IfOk-weaker, members_of, keys_are, asked}, EditLemmas.{listed-tree, listed-part, tree_texts}}
use Rattle.conf_session.specs.Edits.{tree_keys}
use Rattle.conf_session.proofs.edits.listed_from.Goals as goal

pub returns-then-keys_are : goal.returns-then-keys_are
returns-then-keys_are c =
    let ms = members_of c.args.pairs.items in
    let tree : keys_are tree_keys ms ≡ true =
    asked _ tree_keys c.deref.result.now _ _ true c.keys_are.ensures tree_texts c.deref.ensures.value c.if-keys_are.true in
    IfOk-weaker c.tree_import.result _ _ (λ part e. e ∙ sym (listed-tree ms tree)) c.tree_import.ensures

pub returns-else-keys_are : goal.returns-else-keys_are
returns-else-keys_are c =
    let ms = members_of c.args.pairs.items in
    let other : keys_are tree_keys ms ≡ false =
    asked _ tree_keys c.deref.result.now _ _ false c.keys_are.ensures tree_texts c.deref.ensures.value
    c.if-keys_are.false in
    IfOk-weaker c.part_from.result _ _ (λ part e. e ∙ sym (listed-part ms other)) c.part_from.ensures
