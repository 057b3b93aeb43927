use Rattle.std.proofs.Common.{◌++◌, encode_utf8_all, ap, ◌∙◌}
use Rattle.conf_history.{proofs.Prelude.command_of, specs.{AboutKeys.keys_of, Logs.command_line}}
use Rattle.conf_history.proofs.line.record_line.Goals as goal

pub returns : goal.returns
returns c =
    let line = command_line c.args.form (keys_of c.args.shown.now) c.args.number (command_of c.args.command.now) in
    c.in_ok-write_line.ensures ∙ ap (λ bytes. bytes ++ encode_utf8_all line) c.new-line.ensures.bytes
