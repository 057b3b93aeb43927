use Rattle.std.proofs.Common.{codes, [], refl, subst}
use Rattle.conf_history.{proofs.Prelude.{on_ok_weaker, ascii, tree_of}, specs.Logs.value_words}
use Rattle.conf_history.proofs.line.write_import.Goals as goal

pub returns : goal.returns
returns g c =
    let both = g.met.S.Sink.takes_both in
    let word = subst (λ cs. g.S.Sink.Takes c.args.sink.now cs c.put_text.new.self)
    (ascii (codes " import ") refl) c.in_ok-put_text.ensures in
    let named = both _ _ _ _ _ word c.in_ok-put_text-2.ensures in
    on_ok_weaker c.write_value.result
    (λ written. both _ _ _ _ _ named
    (subst (λ pointer. g.S.Sink.Takes c.put_text-2.new.self (value_words c.args.form pointer (tree_of c.args.tree.now))
    c.write_value.new.sink) (ascii [] refl) written))
    c.write_value.ensures
