use Rattle.std.proofs.Common.{◌+◌, ap, ◌∙◌}
use Rattle.yaml_writer.proofs.{Prelude.tree_of, SizeLaws.made, SizeSums.{filled_value, other_value}}
use Rattle.yaml_writer.proofs.size.Size.after_key.Goals as goal

pub returns-then-is_filled : goal.returns-then-is_filled
returns-then-is_filled c =
    ap (λ size. made (3 + size.bytes) (1 + size.lines)) c.requires.element
    ∙ filled_value (tree_of c.args.tree.now) c.if-is_filled.ensures

pub returns : goal.returns
returns c =
    ap (λ size. made (1 + size.bytes) size.lines) c.requires.element
    ∙ other_value (tree_of c.args.tree.now) c.if-is_filled.ensures
