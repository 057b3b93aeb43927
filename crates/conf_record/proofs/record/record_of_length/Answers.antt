use Rattle.std.proofs.Common.{◌++◌, string_bytes, encode_utf8_all, ap, sym, ◌∙◌}
use Rattle.conf_record.{proofs.Prelude.{chars_from_encodes, IsUtf8-string_bytes, command_of}, specs.Records.{record_text, record_bytes}}
use Rattle.conf_record.proofs.record.record_of_length.Goals as goal

pub returns-clause-text : goal.returns-clause-text
returns-clause-text c =
    let written = c.write_record.new.sink in
    let text = record_text (command_of c.args.command.now) c.args.number in
    let bytes = c.in_ok-write_record.ensures.takes ∙ ap (λ prefix. prefix ++ encode_utf8_all text) c.in_ok-text.ensures.bytes in
    sym (chars_from_encodes text (string_bytes written) (IsUtf8-string_bytes written) (sym bytes))

pub returns-clause-bytes : goal.returns-clause-bytes
unfolding record_bytes
returns-clause-bytes c =
    let text = record_text (command_of c.args.command.now) c.args.number in
    c.in_ok-write_record.ensures.takes ∙ ap (λ prefix. prefix ++ encode_utf8_all text) c.in_ok-text.ensures.bytes

pub returns-clause-kept : goal.returns-clause-kept
returns-clause-kept c = c.in_ok-write_record.ensures.kept
