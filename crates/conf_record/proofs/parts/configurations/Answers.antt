use Rattle.std.proofs.Common.{rules, length, ap, ◌∙◌, arith}
use Rattle.conf_record.proofs.{Prelude.into_iter_items, PieceLemmas.{none_moved, one_moved, all_moved}}
use Rattle.conf_record.proofs.parts.configurations.Goals as goal

pub loop-name-init : goal.loop-name-init
loop-name-init c = (
  rw (c.in_ok-configs.ensures.items, c.into_iter-name-iterator.ensures.into_iter_gives.0) (none_moved c.args.pairs.items c.requires),
  search rules,
)

pub part-requires : goal.part-requires
part-requires c = (rw c.in-Some.ensures.steps.0 at c.loop-name.invariant.0.kept).0

pub loop-name-preserved : goal.loop-name-preserved
loop-name-preserved c =
    let gone = c.in-Some.ensures.steps.1 in
    let one = ap length c.in-Some.ensures.steps.0 in
    let was = c.loop-name.invariant.1 in (
      one_moved c.args.pairs.items c.loop-name.configs.items
          (into_iter_items c.next.new.self) c.in-Some.name c.in_ok-name.name c.in-Some.tree c.part.result
          c.in_ok-name.ensures c.part.ensures
          (rw c.in-Some.ensures.steps.0 at c.loop-name.invariant.0)
          c.push.new.self.items c.in_ok-push.ensures.items,
      omega arith,
    )

pub returns : goal.returns
returns c =
    all_moved c.args.pairs.items c.loop-name.configs.items (into_iter_items c.loop-name.name-iterator) c.loop-name.invariant.0
    (c.loop-name.invariant.1 ∙ c.in-None.ensures.steps.0)
