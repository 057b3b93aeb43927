use Rattle.std.proofs.Common.{◌++◌, codes, encode_utf8_all, string_bytes, ap, ◌∙◌}
use Rattle.{yaml_forms.{proofs.Prelude.tree_of, specs.Json.{json_text, json_line}}, yaml_writer.specs.Encoded.encoded_both}
use Rattle.yaml_forms.proofs.json_tree.json_line.Goals as goal

pub returns : goal.returns
returns c =
    let t = tree_of c.args.tree.now in
    encoded_both (string_bytes c.new-line.result) (string_bytes c.write_json.new.sink)
    (string_bytes c.put_char.new.self) (json_text t) (codes "\n") c.in_ok-write_json.ensures c.in_ok-put_char.ensures
    ∙ ap (λ bytes. bytes ++ encode_utf8_all (json_line t)) c.new-line.ensures.bytes
