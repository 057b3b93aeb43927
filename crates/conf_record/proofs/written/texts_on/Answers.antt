use Rattle.conf_record.proofs.WrittenLemmas.{import_written, set_written, delete_written, value_line}
use Rattle.conf_record.proofs.written.texts_on.Goals as goal

pub returns-in_ok-value-in-Import-clause-written : goal.returns-in_ok-value-in-Import-clause-written
returns-in_ok-value-in-Import-clause-written c =
    rw (c.in-Import.is) (import_written c.in-Import.name c.in-Import.value _ _ c.in_ok-name-in-Import.ensures
    (value_line _ _ c.in_ok-value-in-Import.ensures))

pub returns-in_ok-value-in-Import-clause-values : goal.returns-in_ok-value-in-Import-clause-values
returns-in_ok-value-in-Import-clause-values c = (c.in-Import.value.now, c.in_ok-value-in-Import.ensures)

pub returns-in_ok-value-in-Set-clause-written : goal.returns-in_ok-value-in-Set-clause-written
returns-in_ok-value-in-Set-clause-written c =
    rw (c.in-Set.is) (set_written c.in-Set.name c.in-Set.path c.in-Set.value _ _ _ c.in_ok-name-in-Set.ensures
    c.in_ok-path-in-Set.ensures (value_line _ _ c.in_ok-value-in-Set.ensures))

pub returns-in_ok-value-in-Set-clause-values : goal.returns-in_ok-value-in-Set-clause-values
returns-in_ok-value-in-Set-clause-values c = (c.in-Set.value.now, c.in_ok-value-in-Set.ensures)

pub returns-in_ok-path-in-Delete-clause-written : goal.returns-in_ok-path-in-Delete-clause-written
returns-in_ok-path-in-Delete-clause-written c =
    rw (c.in-Delete.is) (delete_written c.in-Delete.name c.in-Delete.path _ _ c.in_ok-name-in-Delete.ensures c.in_ok-path-in-Delete.ensures)
