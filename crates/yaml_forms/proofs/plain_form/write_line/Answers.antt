use Rattle.yaml_forms.proofs.Prelude.{on_ok_weaker}
use Rattle.yaml_forms.proofs.plain_form.write_line.Goals as goal

pub returns : goal.returns
returns g c = on_ok_weaker c.put_char.result (g.met.S.Sink.takes_both _ _ _ _ _ c.in_ok-put_text.ensures) c.put_char.ensures
