use Rattle.std.proofs.Common.{◌-◌, ◌<◌, refl, arith}
use Rattle.yaml_tree.{specs.{Kept.value_placed, OpenParts.part_frame}, proofs.InnermostLemmas.change_innermost}
use Rattle.yaml_tree.proofs.parts.Parts.put_collection.Goals as goal

pub returns-in-Some-clause-parts : goal.returns-in-Some-clause-parts
returns-in-Some-clause-parts g c =
    let parts = c.args.self.now.parts in
    let filled : 0 < parts.len = c.in-Some.ensures.variant.0 refl in
    change_innermost (part_frame g.V.Kept.tree g.V.Kept.elements)
    (value_placed g.V.Kept.keep (g.V.Kept.tree c.args.value)) parts.items (parts.len - 1)
    c.in-Some.part.now c.put_collection.new.self c.put_collection.result
    (omega (arith, parts.ok.0, filled)) c.in-Some.ensures.value c.put_collection.ensures
