use Rattle.std.proofs.Common.{subst}
use Rattle.conf_history.{proofs.Prelude.{chars, on_ok_weaker}, specs.JsonLogs.text_json}
use Rattle.conf_history.proofs.json_line.write_text.Goals as goal

pub returns-in-Some : goal.returns-in-Some
returns-in-Some g c =
    let start = c.args.sink.now in
    let end = c.write_member.new.sink in
    on_ok_weaker c.write_member.result
    (subst (λ found. g.S.Sink.Takes start (text_json (chars c.args.key.now) found) end) c.in-Some.ensures)
    c.write_member.ensures
