use Rattle.std.proofs.Common.{codes, refl, subst}
use Rattle.conf_session.proofs.{Prelude.{on_ok_weaker, chars, tree_of, ascii}, WordLemmas.framed-one}
use Rattle.conf_session.proofs.answer.write_answer.Goals as goal

pub returns : goal.returns
returns g c =
    let both = g.met.S.Sink.takes_both in
    let start = c.args.sink.now in
    let end = c.put_text-2.new.self in
    let prefix = subst (λ cs. g.S.Sink.Takes start cs c.put_text.new.self) (ascii (codes "---\n") refl) c.in_ok-put_text.ensures in
    on_ok_weaker c.put_text-2.result
    (λ written. subst (λ cs. g.S.Sink.Takes start cs end) (framed-one (chars c.args.key.now) (tree_of c.args.value.now))
    (both _ _ _ _ _ (both _ _ _ _ _ (both _ _ _ _ _ prefix c.in_ok-write_key.ensures) c.in_ok-write_value.ensures)
    (subst (λ cs. g.S.Sink.Takes c.write_value.new.sink cs end) (ascii (codes "...\n") refl) written)))
    c.put_text-2.ensures
