use Rattle.std.proofs.Common.{false, true, sym, ◌∙◌, refl}
use Rattle.conf_record.proofs.{Prelude.{chars, members_of}, TreeLemmas.{under_import, under_set, under_delete, under_none, import_texts}}
use Rattle.conf_record.{proofs.TreeLemmas.{asked, texts_ascii}, specs.RecordsRead.{set_keys, delete_keys}}
use Rattle.conf_record.proofs.edit_members.members_from.Goals as goal

pub returns-then-keys_are-clause-read : goal.returns-then-keys_are-clause-read
returns-then-keys_are-clause-read c =
    let key = c.args.import_key.now in
    c.import_from.ensures.read ∙ sym (under_import (chars key) (members_of c.args.pairs.items)
    (asked _ _ c.deref.result.now _ _ true c.keys_are.ensures (import_texts key) c.deref.ensures.value c.if-keys_are.true))

pub returns-then-keys_are-2-clause-read : goal.returns-then-keys_are-2-clause-read
returns-then-keys_are-2-clause-read c =
    let key = c.args.import_key.now in
    c.set_from.ensures.read ∙ sym (under_set (chars key) (members_of c.args.pairs.items)
    (asked _ _ c.deref.result.now _ _ false c.keys_are.ensures (import_texts key) c.deref.ensures.value c.if-keys_are.false)
    (asked _ set_keys c.deref-else-keys_are.result.now _ _ true c.keys_are-else-keys_are.ensures (texts_ascii set_keys refl)
    c.deref-else-keys_are.ensures.value c.if-keys_are-2.true))

pub returns-then-keys_are-3-clause-read : goal.returns-then-keys_are-3-clause-read
returns-then-keys_are-3-clause-read c =
    let key = c.args.import_key.now in
    c.delete_from.ensures.read ∙ sym (under_delete (chars key) (members_of c.args.pairs.items)
    (asked _ _ c.deref.result.now _ _ false c.keys_are.ensures (import_texts key) c.deref.ensures.value c.if-keys_are.false)
    (asked _ set_keys c.deref-else-keys_are.result.now _ _ false c.keys_are-else-keys_are.ensures (texts_ascii set_keys refl)
    c.deref-else-keys_are.ensures.value c.if-keys_are-2.false)
    (asked _ delete_keys c.deref-else-keys_are-2.result.now _ _ true c.keys_are-else-keys_are-2.ensures
    (texts_ascii delete_keys refl) c.deref-else-keys_are-2.ensures.value c.if-keys_are-3.true))

pub returns-else-keys_are-3-clause-read : goal.returns-else-keys_are-3-clause-read
returns-else-keys_are-3-clause-read c =
    let key = c.args.import_key.now in
    sym (under_none (chars key) (members_of c.args.pairs.items)
    (asked _ _ c.deref.result.now _ _ false c.keys_are.ensures (import_texts key) c.deref.ensures.value c.if-keys_are.false)
    (asked _ set_keys c.deref-else-keys_are.result.now _ _ false c.keys_are-else-keys_are.ensures (texts_ascii set_keys refl)
    c.deref-else-keys_are.ensures.value c.if-keys_are-2.false)
    (asked _ delete_keys c.deref-else-keys_are-2.result.now _ _ false c.keys_are-else-keys_are-2.ensures
    (texts_ascii delete_keys refl) c.deref-else-keys_are-2.ensures.value c.if-keys_are-3.false))
