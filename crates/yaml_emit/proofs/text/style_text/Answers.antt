use Rattle.std.proofs.{Common.{◌++◌, string_bytes, encode_utf8_all, ap, sym, ◌∙◌}, lemmas.Str.{chars_from_encodes, IsUtf8-string_bytes}}
use Rattle.{yaml_grammar.specs.Style.style_text, yaml_data.specs.Seen.tree_of}
use Rattle.yaml_emit.proofs.text.style_text.Goals as goal

pub returns : goal.returns
returns c =
    let written = c.write_style.new.sink in
    let bytes = c.in_ok-write_style.ensures ∙ ap
    (λ prefix. prefix ++ encode_utf8_all (style_text (tree_of c.tree.result.now))) c.in_ok-text.ensures.bytes in
    sym (chars_from_encodes (style_text (tree_of c.tree.result.now)) (string_bytes written) (IsUtf8-string_bytes written) (sym bytes))
    ∙ ap (λ tree. style_text (tree_of tree)) c.tree.ensures.same
