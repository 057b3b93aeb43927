use Rattle.std.proofs.Common.{ap, ◌∙◌}
use Rattle.yaml_tree.proofs.Prelude.{chars, text, tree_of-Text}
use Rattle.yaml_tree.proofs.kept.TreeKept.of_scalar.Goals as goal

pub returns : goal.returns
returns c = tree_of-Text c.in_ok-text.text ∙ ap (λ bytes. text (chars bytes)) c.in_ok-text.ensures
