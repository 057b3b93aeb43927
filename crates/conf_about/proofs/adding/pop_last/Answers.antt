use Rattle.std.proofs.Common.{arith, vec_len}
use Rattle.conf_about.proofs.AddLemmas.{pop-off}
use Rattle.conf_about.proofs.adding.pop_last.Goals as goal

pub returns : goal.returns
returns c =
    let old = c.args.pairs.now in
    let new = c.pop.new.self in
    pop-off old.items new.items (vec_len old) (vec_len new) c.pop.result (omega arith) c.pop.ensures.items c.pop.ensures.cases
