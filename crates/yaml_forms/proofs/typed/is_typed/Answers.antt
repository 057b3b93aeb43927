use Rattle.std.proofs.Common.{◌∙◌}
use Rattle.yaml_forms.proofs.TypedLemmas.{typed-bytes}
use Rattle.yaml_forms.proofs.typed.is_typed.Goals as goal

pub returns : goal.returns
returns c = c.is_typed_text.ensures ∙ typed-bytes c.args.text.now c.utf8.text
