use Rattle.std.proofs.Common.{true, false, sym, ap, ◌∙◌, arith}
use Rattle.conf_about.proofs.{Prelude.bytes_eq, PairLemmas.key-turn}
use Rattle.conf_about.proofs.finding.has_key.Goals as goal

pub returns-then-eq : goal.returns-then-eq
returns-then-eq c =
    let key = c.args.key.now in
    let l = c.loop-other in
    let x = c.loop-other-item in
    let compared = sym c.if-eq.true ∙ c.eq.ensures ∙ ap (λ bytes. bytes_eq bytes key) c.as_str.ensures in
    sym (key-turn c.args.pairs.now l.other-index x.result (omega arith) x.is key true c.utf8.key compared) ∙ l.invariant

pub loop-other-preserved : goal.loop-other-preserved
loop-other-preserved c =
    let key = c.args.key.now in
    let l = c.loop-other in
    let x = c.loop-other-item in
    let compared = sym c.if-eq.false ∙ c.eq.ensures ∙ ap (λ bytes. bytes_eq bytes key) c.as_str.ensures in
    sym (key-turn c.args.pairs.now l.other-index x.result (omega arith) x.is key false c.utf8.key compared) ∙ l.invariant
