use Rattle.std.proofs.Common.{◌≡◌, ◌<◌, false, eqb, ap, sym, ◌∙◌, arith}
use Rattle.yaml_tree.{proofs.{Prelude.nat_tests, PartLemmas.unfinished}, specs.{OpenParts.part_frame, Frames.finished_tree}}
use Rattle.yaml_tree.proofs.parts.Parts.take_whole.Goals as goal

pub returns-then-not-is_empty-clause-parts : goal.returns-then-not-is_empty-clause-parts
returns-then-not-is_empty-clause-parts g c =
    let parts = c.pop.new.self.parts in
    let some : eqb parts.len 0 ≡ false = sym c.is_empty.ensures ∙ c.if-not-is_empty.true in
    let room : 0 < parts.len = grind (arith, nat_tests) in
    ap finished_tree c.in_ok-last.ensures.parts
    ∙ unfinished (part_frame g.V.Kept.tree g.V.Kept.elements) (part_frame g.V.Kept.tree g.V.Kept.elements c.in_ok-last.last) parts.items
    (omega (arith, parts.ok.0, room))
