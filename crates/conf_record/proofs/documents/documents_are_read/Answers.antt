use Rattle.conf_record.proofs.DocumentLemmas.{record_is, base_is, base_fits, one_base, one_record}
use Rattle.conf_record.proofs.documents.documents_are_read.Goals as goal

pub returns-clause-bases : goal.returns-clause-bases
returns-clause-bases c = λ format s kept. base_is format s s (c.records_read.ensures.base format s kept)

pub returns-clause-records : goal.returns-clause-records
returns-clause-records c = λ s new command room number kept is done small fits.
    record_is command command number number (c.records_read.ensures.record s new command room number kept is done small fits)

pub returns-clause-one_base : goal.returns-clause-one_base
returns-clause-one_base c = one_base c.bytes_give_one.ensures

pub returns-clause-one_record : goal.returns-clause-one_record
returns-clause-one_record c = one_record c.bytes_give_one.ensures

pub returns-clause-fit : goal.returns-clause-fit
returns-clause-fit c = λ format s kept. base_fits format s kept (c.records_read.ensures.base format s kept)
