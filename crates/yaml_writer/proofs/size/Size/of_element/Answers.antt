use Rattle.std.proofs.Common.{ap, arith}
use Rattle.yaml_writer.{proofs.{Prelude.tree_of, SizeBounds.{element_bound, element_small}}, specs.declared.size.Size.Size}
use Rattle.yaml_writer.proofs.size.Size.of_element.Goals as goal

pub element_size-requires : goal.element_size-requires
element_size-requires c = omega (arith, element_small (tree_of c.args.tree.now), c.requires.long)

pub returns-clause-small : goal.returns-clause-small
returns-clause-small c =
    let t = tree_of c.args.tree.now in
    let bytes = ap (λ (s : Size). s.bytes) c.element_size.ensures in
    let lines = ap (λ (s : Size). s.lines) c.element_size.ensures in (
      omega (arith, bytes, element_small t, c.requires.long),
      omega (arith, lines, element_bound t, element_small t, c.requires.long),
    )
