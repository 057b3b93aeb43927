use Rattle.std.proofs.Common.{false, true, Some, option_map, sym, ap, ◌∙◌, refl}
use Rattle.conf_record.proofs.{Prelude.{IfOk-weaker, members_of, edit_of, single}, TreeLemmas.{plain_batch, plain_single, asked}}
use Rattle.conf_record.{proofs.TreeLemmas.texts_ascii, specs.RecordsRead.batch_keys}
use Rattle.conf_record.proofs.command_reader.plain_from.Goals as goal

pub returns-then-keys_are : goal.returns-then-keys_are
returns-then-keys_are c =
    IfOk-weaker c.batch_from.result _ _ (λ read e. e ∙ sym (plain_batch (members_of c.args.pairs.items)
    (asked _ batch_keys c.deref.result.now _ _ true c.keys_are.ensures (texts_ascii batch_keys refl)
    c.deref.ensures.value c.if-keys_are.true)))
    c.batch_from.ensures

pub returns-in-Some : goal.returns-in-Some
returns-in-Some c =
    sym (plain_single (members_of c.args.pairs.items)
    (asked _ batch_keys c.deref.result.now _ _ false c.keys_are.ensures (texts_ascii batch_keys refl)
    c.deref.ensures.value c.if-keys_are.false)
    ∙ ap (option_map single) (sym c.in_ok-read.ensures ∙ ap (option_map edit_of) c.in-Some.is))

pub returns-in-None : goal.returns-in-None
returns-in-None c =
    sym (plain_single (members_of c.args.pairs.items)
    (asked _ batch_keys c.deref.result.now _ _ false c.keys_are.ensures (texts_ascii batch_keys refl)
    c.deref.ensures.value c.if-keys_are.false)
    ∙ ap (option_map single) (sym c.in_ok-read.ensures ∙ ap (option_map edit_of) c.in-None.is))
