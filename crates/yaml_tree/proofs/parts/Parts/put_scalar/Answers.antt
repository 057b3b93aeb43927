use Rattle.std.proofs.Common.{◌-◌, ◌<◌, refl, arith}
use Rattle.yaml_tree.{proofs.{Prelude.{cow_str_bytes, chars}, InnermostLemmas.change_innermost}, specs.Kept.scalar_placed}
use Rattle.yaml_tree.specs.OpenParts.{part_frame}
use Rattle.yaml_tree.proofs.parts.Parts.put_scalar.Goals as goal

pub returns-in-Some-clause-parts : goal.returns-in-Some-clause-parts
returns-in-Some-clause-parts g c =
    let parts = c.args.self.now.parts in
    let filled : 0 < parts.len = c.in-Some.ensures.variant.0 refl in
    change_innermost (part_frame g.V.Kept.tree g.V.Kept.elements)
    (scalar_placed g.V.Kept.keep (chars (cow_str_bytes c.args.value))) parts.items (parts.len - 1)
    c.in-Some.part.now c.put_scalar.new.self c.put_scalar.result
    (omega (arith, parts.ok.0, filled)) c.in-Some.ensures.value c.put_scalar.ensures
