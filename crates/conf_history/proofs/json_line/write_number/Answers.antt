use Rattle.std.proofs.Common.{codes, refl, subst, ◌∙◌}
use Rattle.{conf_history.proofs.Prelude.{on_ok_weaker, ascii, chars-IsAscii}, yaml_forms.specs.Json.json_string}
use Rattle.conf_history.proofs.json_line.write_number.Goals as goal

pub returns : goal.returns
returns g c =
    let Takes = g.S.Sink.Takes in
    let start = c.put_text.new.self in
    let end = c.write_json_string.new.sink in
    let key = subst (λ cs. Takes c.args.sink.now cs start) (ascii (codes "{\"at\":") refl) c.in_ok-put_text.ensures in
    let digits = chars-IsAscii c.format.result.now c.format.ensures.ascii ∙ c.format.ensures.text in
    on_ok_weaker c.write_json_string.result
    (λ written. g.met.S.Sink.takes_both _ _ _ _ _ key (subst (λ cs. Takes start (json_string cs) end) digits written))
    c.write_json_string.ensures
