use Rattle.std.proofs.Common.{option_map, length, ap, sym, ◌∙◌, arith}
use Rattle.conf_record.proofs.{Prelude.{into_iter_items, edit_of}, PieceLemmas.one_read}
use Rattle.conf_record.proofs.command_reader.edits_from.Goals as goal

pub loop-item-preserved : goal.loop-item-preserved
loop-item-preserved c =
    let gone = c.in-Some.ensures.steps.1 in
    let one = ap length c.in-Some.ensures.steps.0 in
    let was = c.loop-item.invariant.1 in (
      one_read c.args.items.items c.loop-item.edits.items c.in-Some.item (into_iter_items c.next.new.self) c.in-Some-2.edit
          (ap (option_map edit_of) (sym c.in-Some-2.is) ∙ c.in_ok-edit.ensures)
          (rw c.in-Some.ensures.steps.0 at c.loop-item.invariant.0)
          c.push.new.self.items c.in_ok-push.ensures.items,
      omega arith,
    )
