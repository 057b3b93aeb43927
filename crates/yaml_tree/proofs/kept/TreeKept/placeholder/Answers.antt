use Rattle.std.proofs.Common.{ap, ◌∙◌}
use Rattle.yaml_tree.proofs.Prelude.{chars-nil, chars, text, tree_of-Text}
use Rattle.yaml_tree.proofs.kept.TreeKept.placeholder.Goals as goal

pub returns : goal.returns
returns c = tree_of-Text c.empty.result ∙ ap (λ bytes. text (chars bytes)) c.empty.ensures ∙ ap text chars-nil
