use Rattle.std.proofs.Common.{subst}
use Rattle.conf_record.proofs.{Prelude.ClosesOnce, DocumentLemmas.{record_framed, records_tear}, FormatLemmas.{tree_in, framed_in}}
use Rattle.conf_record.specs.Records.{record_tree}
use Rattle.conf_record.proofs.documents.documents_close.Goals as goal

pub returns-clause-bases : goal.returns-clause-bases
returns-clause-bases c = λ format s. subst ClosesOnce (framed_in format s) (c.closed_once.ensures.once (tree_in format s))

pub returns-clause-records : goal.returns-clause-records
returns-clause-records c = λ command number.
    subst ClosesOnce (record_framed command number) (c.closed_once.ensures.once (record_tree command number))

pub returns-clause-torn : goal.returns-clause-torn
returns-clause-torn c = records_tear c.closed_once.ensures.pieces
