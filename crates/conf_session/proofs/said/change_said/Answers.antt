use Rattle.std.proofs.Common.{◌≡◌, false, true, sym, ◌∙◌}
use Rattle.conf_session.proofs.{Prelude.{IfOk-weaker, members_of, keys_are, asked}, SaidLemmas.{batch_texts, change-batch, change-part}}
use Rattle.conf_session.specs.Said.{batch_keys}
use Rattle.conf_session.proofs.said.change_said.Goals as goal

pub returns-then-keys_are : goal.returns-then-keys_are
returns-then-keys_are c =
    let ms = members_of c.args.pairs.items in
    let first : keys_are batch_keys ms ≡ true =
    asked _ batch_keys c.deref.result.now _ _ true c.keys_are.ensures batch_texts c.deref.ensures.value c.if-keys_are.true in
    IfOk-weaker c.batch_said.result _ _ (λ said e. e ∙ sym (change-batch ms first)) c.batch_said.ensures

pub returns-else-keys_are : goal.returns-else-keys_are
returns-else-keys_are c =
    let ms = members_of c.args.pairs.items in
    let other : keys_are batch_keys ms ≡ false =
    asked _ batch_keys c.deref.result.now _ _ false c.keys_are.ensures batch_texts c.deref.ensures.value
    c.if-keys_are.false in
    IfOk-weaker c.part_said.result _ _ (λ said e. e ∙ sym (change-part ms other)) c.part_said.ensures
