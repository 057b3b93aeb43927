use Rattle.std.proofs.Common.{codes, refl, subst}
use Rattle.conf_history.proofs.Prelude.{on_ok_weaker, ascii}
use Rattle.conf_history.proofs.json_line.write_place.Goals as goal

pub returns : goal.returns
returns g c =
    let both = g.met.S.Sink.takes_both in
    let named = both _ _ _ _ _ c.in_ok-put_text.ensures c.in_ok-write_json_string.ensures in
    let key = subst (λ cs. g.S.Sink.Takes c.write_json_string.new.sink cs c.put_text-2.new.self)
    (ascii (codes ",\"path\":") refl) c.in_ok-put_text-2.ensures in
    on_ok_weaker c.write_json_string-2.result (both _ _ _ _ _ (both _ _ _ _ _ named key)) c.write_json_string-2.ensures
