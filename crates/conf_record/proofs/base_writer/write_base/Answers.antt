use Rattle.std.proofs.Common.{codes, refl, subst}
use Rattle.conf_record.{proofs.{Prelude.{on_ok_weaker, ascii}, FormatLemmas.lines_in}, specs.BaseStart.base_head}
use Rattle.conf_record.proofs.base_writer.write_base.Goals as goal

pub returns : goal.returns
returns g c =
    let both = g.met.S.Sink.takes_both in
    let s = c.args.state.now in
    let end = c.put_text.new.self in
    let head = subst (λ n. g.S.Sink.Takes c.args.sink.now (base_head c.args.format n) c.write_head.new.sink)
    c.count.ensures.count c.in_ok-write_head.ensures in
    on_ok_weaker c.put_text.result
    (λ written. subst (λ cs. g.S.Sink.Takes c.args.sink.now cs end) (lines_in c.args.format s)
    (both _ _ _ _ _ (both _ _ _ _ _ head c.in_ok-write_configs.ensures)
    (subst (λ cs. g.S.Sink.Takes c.write_configs.new.sink cs end) (ascii (codes "...\n") refl) written)))
    c.put_text.ensures
