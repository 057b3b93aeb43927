use Rattle.std.proofs.{Common.◌∙◌, lemmas.Slice.Eq.bytes_eq-Decides}
use Rattle.yaml_forms.proofs.Prelude.{same_from_decides, same_text-Decides}
use Rattle.yaml_forms.proofs.typed.is_word.Goals as goal

pub returns : goal.returns
returns c = c.eq.ensures ∙ same_from_decides _ _ (bytes_eq-Decides c.args.text.now c.args.word.now)
    (same_text-Decides c.args.text.now c.args.word.now)
