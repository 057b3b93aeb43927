use Rattle.conf_store.proofs.JournalHoles.{journal-holed}
use Rattle.conf_store.proofs.laws.holes_mean.Goals as goal

pub returns : goal.returns
returns c = journal-holed c.no_zero_read.ensures.bytes c.zeros_close_nothing.ensures.behind c.zeros_close_nothing.ensures.holes
    c.documents_close.ensures.records c.one_list_of_pieces.ensures.some
