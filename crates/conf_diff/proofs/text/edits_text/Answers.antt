use Rattle.std.proofs.Common.{◌++◌, map, string_bytes, encode_utf8_all, ap, sym, ◌∙◌}
use Rattle.conf_diff.{proofs.Prelude.{IsUtf8-string_bytes, chars_from_encodes, edit_of}, specs.EditTexts.edits_text}
use Rattle.conf_diff.proofs.text.edits_text.Goals as goal

pub returns-clause-text : goal.returns-clause-text
returns-clause-text c =
    let written = c.write_edits.new.sink in
    let text = edits_text (map edit_of c.args.edits.now) in
    let bytes = c.in_ok-write_edits.ensures ∙ ap (λ prefix. prefix ++ encode_utf8_all text) c.new-text.ensures.bytes in
    sym (chars_from_encodes text (string_bytes written) (IsUtf8-string_bytes written) (sym bytes))

pub returns-clause-bytes : goal.returns-clause-bytes
returns-clause-bytes c =
    let text = edits_text (map edit_of c.args.edits.now) in
    c.in_ok-write_edits.ensures ∙ ap (λ prefix. prefix ++ encode_utf8_all text) c.new-text.ensures.bytes
