use Rattle.std.proofs.Common.{length, ap, subst, ◌∙◌, arith}
use Rattle.conf_session.proofs.{Prelude.into_iter_items, PartLemmas.{ReadSoFar, one-read, text-not-read, all-read}}
use Rattle.conf_session.proofs.parts.read_parts.Goals as goal

pub loop-part-preserved : goal.loop-part-preserved
loop-part-preserved c =
    let gone = c.in-Some.ensures.steps.1 in
    let one = ap length c.in-Some.ensures.steps.0 in
    let was = c.loop-part.invariant.1 in (
      one-read c.args.parts.items c.loop-part.edits.items c.in-Some.part (into_iter_items c.next.new.self) c.in-Ok.edit c.in-Ok.ensures.ok
          (subst (ReadSoFar c.args.parts.items c.loop-part.edits.items) c.in-Some.ensures.steps.0
          c.loop-part.invariant.0) c.push.new.self.items c.in_ok-push-in-Ok.ensures.items,
      omega arith,
    )

pub returns-in-Err-clause-refused : goal.returns-in-Err-clause-refused
returns-in-Err-clause-refused c some =
    text-not-read c.args.parts.items c.loop-part.edits.items c.in-Some.part
    (into_iter_items c.next.new.self) c.in-Err.fault (c.in-Err.ensures.refused some)
    (subst (ReadSoFar c.args.parts.items c.loop-part.edits.items) c.in-Some.ensures.steps.0 c.loop-part.invariant.0)

pub returns-clause-ok : goal.returns-clause-ok
returns-clause-ok c =
    all-read c.args.parts.items c.loop-part.edits.items (into_iter_items c.loop-part.part-iterator)
    (c.loop-part.invariant.1 ∙ c.in-None.ensures.steps.0) c.loop-part.invariant.0
