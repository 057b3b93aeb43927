use Rattle.std.proofs.Common.{string_bytes}
use Rattle.yaml_forms.proofs.ArrayLemmas.{fresh-all}
use Rattle.yaml_forms.proofs.text_array.TextArray.new.Goals as goal

pub returns : goal.returns
returns c = λ values. fresh-all (string_bytes c.new.result) values c.new.ensures.bytes
