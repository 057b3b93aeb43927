use Rattle.conf_history.proofs.Prelude.{on_ok_weaker}
use Rattle.conf_history.proofs.json_line.write_member.Goals as goal

pub returns : goal.returns
returns g c =
    let both = g.met.S.Sink.takes_both in
    let key = both _ _ _ _ _ c.in_ok-put_char.ensures c.in_ok-write_json_string.ensures in
    on_ok_weaker c.write_json_string-2.result (both _ _ _ _ _ (both _ _ _ _ _ key c.in_ok-put_char-2.ensures))
    c.write_json_string-2.ensures
