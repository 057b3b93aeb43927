use Rattle.std.proofs.Common.{sym}
use Rattle.conf_diff.proofs.Prelude.{on_ok_weaker}
use Rattle.conf_diff.proofs.text.write_edit.Goals as goal

pub returns-in-Import : goal.returns-in-Import
returns-in-Import g c =
    on_ok_weaker c.write_import.result (λ told. rw (c.in-Import.is, sym c.deref.ensures) told) c.write_import.ensures

pub returns-in-Set : goal.returns-in-Set
returns-in-Set g c =
    on_ok_weaker c.write_set.result (λ told. rw (c.in-Set.is, sym c.deref-in-Set.ensures, sym c.deref-in-Set-2.ensures) told)
    c.write_set.ensures

pub returns-in-Delete : goal.returns-in-Delete
returns-in-Delete g c =
    on_ok_weaker c.write_delete.result (λ told. rw (c.in-Delete.is, sym c.deref-in-Delete.ensures, sym c.deref-in-Delete-2.ensures) told)
    c.write_delete.ensures
