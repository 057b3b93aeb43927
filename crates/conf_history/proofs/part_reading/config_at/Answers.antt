use Rattle.conf_history.proofs.{Prelude.err_from_is_err_and, WalkLemmas.any-bytes}
use Rattle.conf_history.proofs.part_reading.config_at.Goals as goal

pub returns-in_err-copy_of-clause-refused : goal.returns-in_err-copy_of-clause-refused
returns-in_err-copy_of-clause-refused g c =
    let p = err_from_is_err_and c.from_residual-in_err-copy_of.result c.from_residual-in_err-copy_of.ensures.1 in
    rw (p.1, p.2) (any-bytes (g.R.Read.remaining c.args.reader.now) _ (λ bytes. tt))
