use Rattle.std.proofs.Common.{codes, refl, subst}
use Rattle.conf_record.proofs.Prelude.{on_ok_weaker, ascii}
use Rattle.conf_record.proofs.base_writer.write_head.Goals as goal

pub returns : goal.returns
returns g c =
    let both = g.met.S.Sink.takes_both in
    let prefix = subst (λ cs. g.S.Sink.Takes c.args.sink.now cs c.put_text.new.self)
    (ascii (codes "---\n") refl) c.in_ok-put_text.ensures in
    let store = subst (λ cs. g.S.Sink.Takes c.put_text.new.self cs c.put_text-2.new.self)
    c.line.ensures c.in_ok-put_text-2.ensures in
    on_ok_weaker c.put_text-3.result
    (λ written. both _ _ _ _ _ (both _ _ _ _ _ (both _ _ _ _ _ prefix store) c.in_ok-write_number.ensures)
    (subst (λ cs. g.S.Sink.Takes c.write_number.new.sink cs c.put_text-3.new.self) (ascii (codes "configs:") refl) written))
    c.put_text-3.ensures
