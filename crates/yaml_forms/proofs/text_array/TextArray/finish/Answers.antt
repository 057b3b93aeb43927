use Rattle.std.proofs.Common.{◌++◌, encode_utf8_all, string_bytes, ap, ◌∙◌}
use Rattle.yaml_forms.{specs.TextArrays.is_fresh, proofs.ArrayLemmas.end_chars}
use Rattle.yaml_forms.proofs.text_array.TextArray.finish.Goals as goal

pub returns : goal.returns
returns c =
    let json = string_bytes c.args.self.json in
    c.in_ok-put_text.ensures ∙ ap (λ cs. json ++ encode_utf8_all cs) (end_chars c.end-end.result.now (is_fresh json) c.end-end.ensures)
