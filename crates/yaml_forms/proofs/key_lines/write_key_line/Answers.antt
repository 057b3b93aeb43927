use Rattle.yaml_forms.proofs.Prelude.{on_ok_weaker}
use Rattle.yaml_forms.proofs.key_lines.write_key_line.Goals as goal

pub returns : goal.returns
returns g c = on_ok_weaker c.end_line.result (g.met.S.Sink.takes_both _ _ _ _ _ c.in_ok-write_key.ensures) c.end_line.ensures
