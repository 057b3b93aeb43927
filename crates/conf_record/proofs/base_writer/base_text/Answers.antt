use Rattle.std.proofs.Common.{◌++◌, string_bytes, encode_utf8_all, ap, sym, ◌∙◌}
use Rattle.conf_record.{proofs.{Prelude.{chars_from_encodes, IsUtf8-string_bytes}, FormatLemmas.bytes_in}, specs.Formats.base_text_in}
use Rattle.conf_record.proofs.base_writer.base_text.Goals as goal

pub returns-clause-text : goal.returns-clause-text
returns-clause-text c =
    let written = c.write_base.new.sink in
    let text = base_text_in c.args.format c.args.state.now in
    let bytes = c.in_ok-write_base.ensures ∙ ap (λ prefix. prefix ++ encode_utf8_all text) c.in_ok-text.ensures.bytes in
    sym (chars_from_encodes text (string_bytes written) (IsUtf8-string_bytes written) (sym bytes))

pub returns-clause-bytes : goal.returns-clause-bytes
returns-clause-bytes c =
    let text = base_text_in c.args.format c.args.state.now in
    c.in_ok-write_base.ensures ∙ ap (λ prefix. prefix ++ encode_utf8_all text) c.in_ok-text.ensures.bytes
    ∙ sym (bytes_in c.args.format c.args.state.now)
