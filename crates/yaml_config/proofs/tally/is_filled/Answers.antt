use Rattle.std.proofs.Common.{not, sym, ap, ◌∙◌, arith}
use Rattle.{yaml_config.proofs.Prelude.{tree_of, tree_of-Seq, tree_of-Map}, yaml_writer.proofs.SizeSums.{filled_elements, filled_members}}
use Rattle.yaml_writer.specs.Sizes.{is_filled}
use Rattle.yaml_config.proofs.tally.is_filled.Goals as goal

pub returns-in-Seq : goal.returns-in-Seq
returns-in-Seq c =
    let items = c.in-Seq.items in
    let seen = ap is_filled (ap tree_of c.in-Seq.is ∙ tree_of-Seq items) in
    ap not c.is_empty.ensures ∙ filled_elements items.items (omega (arith, items.ok)) ∙ sym seen

pub returns-in-Map : goal.returns-in-Map
returns-in-Map c =
    let pairs = c.in-Map.pairs in
    let seen = ap is_filled (ap tree_of c.in-Map.is ∙ tree_of-Map pairs) in
    ap not c.is_empty-in-Map.ensures ∙ filled_members pairs.items (omega (arith, pairs.ok)) ∙ sym seen
