use Rattle.yaml_forms.proofs.Prelude.{on_ok_weaker}
use Rattle.yaml_forms.proofs.json_string.write_number_escape.Goals as goal

pub returns : goal.returns
returns g c =
    let both = g.met.S.Sink.takes_both in
    on_ok_weaker c.write_digit-4.result
    (both _ _ _ _ _
    (both _ _ _ _ _ (both _ _ _ _ _ (both _ _ _ _ _ c.in_ok-write_escape.ensures c.in_ok-write_digit.ensures)
    c.in_ok-write_digit-2.ensures) c.in_ok-write_digit-3.ensures))
    c.write_digit-4.ensures
