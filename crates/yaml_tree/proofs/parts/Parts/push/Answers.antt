use Rattle.std.proofs.Common.{ap, ◌∙◌}
use Rattle.yaml_tree.{specs.OpenParts.part_frames, proofs.PartLemmas.part_frames-push}
use Rattle.yaml_tree.proofs.parts.Parts.push.Goals as goal

pub returns-clause-parts : goal.returns-clause-parts
returns-clause-parts g c =
    ap (part_frames g.V.Kept.tree g.V.Kept.elements) c.in_ok-push.ensures.items
    ∙ part_frames-push g.V.Kept.tree g.V.Kept.elements c.args.self.now.parts.items c.args.part
