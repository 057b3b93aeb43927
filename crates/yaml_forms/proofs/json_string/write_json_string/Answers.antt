use Rattle.yaml_forms.proofs.Prelude.{on_ok_weaker}
use Rattle.yaml_forms.proofs.json_string.write_json_string.Goals as goal

pub returns : goal.returns
returns g c =
    let both = g.met.S.Sink.takes_both in
    on_ok_weaker c.put_char-2.result
    (both _ _ _ _ _ (both _ _ _ _ _ c.in_ok-put_char.ensures c.in_ok-write_json_chars.ensures))
    c.put_char-2.ensures
