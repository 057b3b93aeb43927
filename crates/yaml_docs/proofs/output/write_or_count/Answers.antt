use Rattle.std.proofs.Common.{◌≡◌, ◌-◌, ◌≤◌, length, take, drop, subst, arith, length-drop}
use Rattle.yaml_docs.proofs.{Prelude.{Appends, take_all}, OutputLemmas.appends-more}
use Rattle.yaml_docs.proofs.output.write_or_count.Goals as goal

pub parts-preserved : goal.parts-preserved
parts-preserved g c =
    let bytes = c.args.bytes.now in
    let done = c.parts.done in
    let left = length-drop done bytes in
    let all : take (length bytes - done) (drop done bytes) ≡ drop done bytes =
    take_all (length bytes - done) (drop done bytes) (omega (arith, left)) in
    let bound = c.in-Ok.ensures.bound in
    let part : c.in-Ok.count ≤ length (drop done bytes) = subst (λ l. c.in-Ok.count ≤ length l) all bound in
    record {
      within = omega (arith, c.parts.invariant.within, part, left);
      out = appends-more _ _ _ bytes done c.in-Ok.count c.parts.invariant.out
          (subst (λ l. Appends (g.W.Write.contents c.parts.writer) (g.W.Write.contents c.write.new.self)
          (take c.in-Ok.count l)) all c.in-Ok.ensures.bytes);
    }
