use Rattle.std.proofs.Common.{◌++◌, encode_utf8_all, string_bytes, ap, ◌∙◌}
use Rattle.yaml_forms.{proofs.{Prelude.{on_ok_weaker, chars}, ArrayLemmas.text_pushed}, specs.Json.json_string}
use Rattle.yaml_forms.proofs.text_array.TextArray.push.Goals as goal

pub returns : goal.returns
returns c =
    let value = chars c.args.text.now in
    let led = ap (λ bytes. bytes ++ encode_utf8_all (json_string value)) c.in_ok-put_char.ensures in
    on_ok_weaker c.write_json_string.result
    (λ written values. text_pushed (string_bytes c.args.self.now.json)
    (string_bytes c.write_json_string.new.sink) value c.lead-lead.result values c.lead-lead.ensures (written ∙ led))
    c.write_json_string.ensures
