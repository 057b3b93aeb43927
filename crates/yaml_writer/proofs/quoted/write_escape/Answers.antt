use Rattle.yaml_writer.proofs.Prelude.{on_ok_weaker}
use Rattle.yaml_writer.proofs.quoted.write_escape.Goals as goal

pub returns : goal.returns
returns g c = on_ok_weaker c.put_char-2.result (g.met.S.Sink.takes_both _ _ _ _ _ c.in_ok-put_char.ensures) c.put_char-2.ensures
