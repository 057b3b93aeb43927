use Rattle.std.proofs.Common.{Some, sym, ap, ◌∙◌}
use Rattle.yaml_tree.specs.{Kept.value_placed, OpenParts.part_frame, Frames.in_seq}
use Rattle.yaml_tree.proofs.parts.Part.put_collection.Goals as goal

pub returns-in_ok-put_element-in-Seq : goal.returns-in_ok-put_element-in-Seq
returns-in_ok-put_element-in-Seq g c =
    ap (λ p. value_placed g.V.Kept.keep (g.V.Kept.tree c.args.value) (part_frame g.V.Kept.tree g.V.Kept.elements p)) c.in-Seq.is
    ∙ ap (λ ts. Some (in_seq ts)) (sym c.in_ok-put_element-in-Seq.ensures)
