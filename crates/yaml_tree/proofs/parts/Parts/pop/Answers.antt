use Rattle.std.proofs.Common.{refl, ap, ◌∙◌, arith}
use Rattle.yaml_tree.{proofs.{Prelude.nil_from_length, PartLemmas.part_frames-push}, specs.OpenParts.part_frames}
use Rattle.yaml_tree.proofs.parts.Parts.pop.Goals as goal

pub returns-in-Some-clause-parts : goal.returns-in-Some-clause-parts
returns-in-Some-clause-parts g c =
    ap (part_frames g.V.Kept.tree g.V.Kept.elements) c.in-Some.ensures.items
    ∙ part_frames-push g.V.Kept.tree g.V.Kept.elements c.pop.new.self.items c.in-Some.part

pub returns-in-None-clause-parts : goal.returns-in-None-clause-parts
returns-in-None-clause-parts g c =
    let parts = c.args.self.now.parts in (
      refl,
      ap (part_frames g.V.Kept.tree g.V.Kept.elements)
          (nil_from_length parts.items (omega (arith, parts.ok.0, c.in-None.ensures.cases))),
    )
