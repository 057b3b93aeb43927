use Rattle.conf_record.proofs.ToldLemmas.{told, begin}
use Rattle.conf_record.proofs.laws.formats_are_told.Goals as goal

pub returns-clause-told : goal.returns-clause-told
returns-clause-told c = told

pub returns-clause-begin : goal.returns-clause-begin
returns-clause-begin c = begin
