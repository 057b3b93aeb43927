use Rattle.yaml_writer.proofs.Prelude.{on_ok_weaker}
use Rattle.yaml_writer.proofs.style.write_text.Goals as goal

pub returns : goal.returns
returns g c =
    on_ok_weaker c.write_scalar.result
    (λ written. g.met.S.Sink.takes_both _ _ _ _ _ c.in_ok-put_char.ensures written)
    c.write_scalar.ensures
