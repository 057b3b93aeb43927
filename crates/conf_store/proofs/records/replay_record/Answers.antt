-- A piece that is not the record after the count is not performed.
use Rattle.std.proofs.{Common.sym, lemmas.Result.err_from_is_err_and}
use Rattle.conf_store.proofs.records.replay_record.Goals as goal

pub returns-in_err-command-clause-refused : goal.returns-in_err-command-clause-refused
returns-in_err-command-clause-refused g c =
    let p = err_from_is_err_and c.from_residual.result c.from_residual.ensures.1 in
    rw (p.1, p.2) (c.in_err-command.ensures.refused (g.T.Replayed.contents c.args.held.now) (sym c.accepted.ensures.count))
