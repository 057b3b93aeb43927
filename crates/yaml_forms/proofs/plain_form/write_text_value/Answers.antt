use Rattle.yaml_forms.proofs.Prelude.{on_ok_weaker}
use Rattle.yaml_forms.proofs.plain_form.write_text_value.Goals as goal

pub returns : goal.returns
returns g c =
    on_ok_weaker c.write_text.result
    (λ written. g.met.S.Sink.takes_both _ _ _ _ _ c.in_ok-put_char.ensures written)
    c.write_text.ensures
