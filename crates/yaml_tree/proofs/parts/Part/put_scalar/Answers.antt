use Rattle.std.proofs.Common.{Some, sym, ap, ◌∙◌}
use Rattle.yaml_tree.{proofs.Prelude.{cow_str_bytes, chars}, specs.{Kept.{scalar_placed, elements_more}, OpenParts.part_frame}}
use Rattle.yaml_tree.specs.Frames.{in_seq}
use Rattle.yaml_tree.proofs.parts.Part.put_scalar.Goals as goal

pub returns-in_ok-put_element-in-Seq : goal.returns-in_ok-put_element-in-Seq
returns-in_ok-put_element-in-Seq g c =
    ap (λ p. scalar_placed g.V.Kept.keep (chars (cow_str_bytes c.args.value)) (part_frame g.V.Kept.tree g.V.Kept.elements p)) c.in-Seq.is
    ∙ ap (λ t. Some (in_seq (elements_more g.V.Kept.keep (g.V.Kept.elements c.in-Seq.items) t))) (sym c.in_ok-value-in-Seq.ensures)
    ∙ ap (λ ts. Some (in_seq ts)) (sym c.in_ok-put_element-in-Seq.ensures)
