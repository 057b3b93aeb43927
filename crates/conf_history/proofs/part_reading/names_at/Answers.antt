use Rattle.conf_history.proofs.{Prelude.err_from_is_err_and, WalkLemmas.any-bytes}
use Rattle.conf_history.proofs.part_reading.names_at.Goals as goal

pub returns-in_err-names-clause-refused : goal.returns-in_err-names-clause-refused
returns-in_err-names-clause-refused g c =
    let p = err_from_is_err_and c.from_residual-in_err-names.result c.from_residual-in_err-names.ensures.1 in
    rw (p.1, p.2) (any-bytes (g.R.Read.remaining c.args.reader.now) _ (λ bytes. tt))
