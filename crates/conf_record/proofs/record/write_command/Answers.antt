use Rattle.std.proofs.Common.{codes, sym, ap, subst, ◌∙◌}
use Rattle.conf_record.proofs.{AboutLemmas.lines-last, Prelude.{on_ok_weaker, command_of, command_with, tree_of, members_after}}
use Rattle.conf_record.specs.{Records.command_members, RecordsRead.IsCommand}
use Rattle.conf_record.proofs.record.write_command.Goals as goal

pub returns-in-Import-clause-takes : goal.returns-in-Import-clause-takes
returns-in-Import-clause-takes g c =
    on_ok_weaker c.write_import.result (λ told. rw (c.in-Import.is, sym c.deref.ensures) told) c.write_import.ensures.takes

pub returns-in-Import-clause-kept : goal.returns-in-Import-clause-kept
returns-in-Import-clause-kept g c =
    on_ok_weaker c.write_import.result (λ told. rw (c.in-Import.is) told) c.write_import.ensures.kept

pub returns-in-Set-clause-takes : goal.returns-in-Set-clause-takes
returns-in-Set-clause-takes g c =
    on_ok_weaker c.write_set.result (λ told. rw (c.in-Set.is, sym c.deref-in-Set.ensures, sym c.deref-in-Set-2.ensures) told)
    c.write_set.ensures.takes

pub returns-in-Set-clause-kept : goal.returns-in-Set-clause-kept
returns-in-Set-clause-kept g c =
    on_ok_weaker c.write_set.result (λ told. rw (c.in-Set.is, sym c.deref-in-Set-2.ensures) told) c.write_set.ensures.kept

pub returns-in-Delete-clause-takes : goal.returns-in-Delete-clause-takes
returns-in-Delete-clause-takes g c =
    on_ok_weaker c.write_delete.result (λ told. rw (c.in-Delete.is, sym c.deref-in-Delete.ensures, sym c.deref-in-Delete-2.ensures) told)
    c.write_delete.ensures.takes

pub returns-in-Delete-clause-kept : goal.returns-in-Delete-clause-kept
returns-in-Delete-clause-kept g c =
    on_ok_weaker c.write_delete.result (λ told. rw (c.in-Delete.is, sym c.deref-in-Delete-2.ensures) told) c.write_delete.ensures.kept

pub returns-in-Batch-clause-takes : goal.returns-in-Batch-clause-takes
returns-in-Batch-clause-takes g c =
    on_ok_weaker c.write_batch.result (λ told. rw (c.in-Batch.is, sym c.deref-in-Batch.ensures.value) told) c.write_batch.ensures.takes

pub returns-in-Batch-clause-kept : goal.returns-in-Batch-clause-kept
returns-in-Batch-clause-kept g c =
    on_ok_weaker c.write_batch.result (λ told. rw (c.in-Batch.is, sym c.deref-in-Batch.ensures.value) told) c.write_batch.ensures.kept

pub returns-in_ok-write_edits-in-Noted-clause-takes : goal.returns-in_ok-write_edits-in-Noted-clause-takes
returns-in_ok-write_edits-in-Noted-clause-takes g c =
    let members = command_members (command_with c.in-Noted.edits) in
    let about = tree_of c.in-Noted.about in
    let noted = sym (ap (λ d. members_after (command_members (command_of d)) 0) c.in-Noted.is) in
    let same = sym (lines-last members (codes "about") about) ∙ noted in
    on_ok_weaker c.write_about.result
    (λ told. subst (λ cs. g.S.Sink.Takes c.args.sink.now cs c.write_about.new.sink) same
    (g.met.S.Sink.takes_both _ _ _ _ _ c.in_ok-write_edits-in-Noted.ensures.takes told))
    c.write_about.ensures.takes

pub returns-in_ok-write_edits-in-Noted-clause-kept : goal.returns-in_ok-write_edits-in-Noted-clause-kept
returns-in_ok-write_edits-in-Noted-clause-kept g c =
    on_ok_weaker c.write_about.result
    (λ told. subst (λ d. IsCommand (command_of d)) (sym c.in-Noted.is)
    (c.write_edits.ensures.plain, c.in_ok-write_edits-in-Noted.ensures.kept, c.write_about.ensures.kept))
    c.write_about.ensures.takes
