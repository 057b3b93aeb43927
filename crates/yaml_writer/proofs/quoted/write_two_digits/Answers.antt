use Rattle.yaml_writer.proofs.Prelude.{on_ok_weaker}
use Rattle.yaml_writer.proofs.quoted.write_two_digits.Goals as goal

pub returns : goal.returns
returns g c = on_ok_weaker c.write_digit-2.result (g.met.S.Sink.takes_both _ _ _ _ _ c.in_ok-write_digit.ensures) c.write_digit-2.ensures
