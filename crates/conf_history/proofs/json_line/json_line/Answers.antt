use Rattle.std.proofs.Common.{◌++◌, codes, encode_utf8_all, string_bytes, ap, ◌∙◌}
use Rattle.conf_history.{proofs.Prelude.command_of, specs.JsonLogs.{command_json, command_json_line}}
use Rattle.yaml_writer.specs.Encoded.{encoded_both}
use Rattle.conf_history.proofs.json_line.json_line.Goals as goal

pub returns : goal.returns
returns c =
    let number = c.args.number in
    let command = command_of c.args.command.now in
    encoded_both (string_bytes c.new-line.result) (string_bytes c.write_command.new.sink)
    (string_bytes c.put_char.new.self) (command_json number command) (codes "\n") c.in_ok-write_command.ensures
    c.in_ok-put_char.ensures
    ∙ ap (λ bytes. bytes ++ encode_utf8_all (command_json_line number command)) c.new-line.ensures.bytes
