use Rattle.std.proofs.Common.{◌++◌, codes, refl, subst}
use Rattle.{conf_history.proofs.Prelude.{chars, on_ok_weaker, ascii}, yaml_forms.specs.Json.json_string}
use Rattle.conf_history.proofs.json_line.write_delete.Goals as goal

pub returns : goal.returns
returns g c =
    let place = subst
    (λ cs. g.S.Sink.Takes c.args.sink.now (cs ++ json_string (chars c.args.name.now) ++ codes ",\"path\":"
    ++ json_string (chars c.args.path.now)) c.write_place.new.sink)
    (ascii (codes "{\"delete\":") refl) c.in_ok-write_place.ensures in
    on_ok_weaker c.put_char.result (g.met.S.Sink.takes_both _ _ _ _ _ place) c.put_char.ensures
