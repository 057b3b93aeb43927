use Rattle.std.proofs.Common.{map, take, sym, ◌∙◌, subst, arith}
use Rattle.conf_store.{proofs.{Prelude.{edit_of, name_of}, PendingLemmas.{AreMade-more, AreMade-stays, names-taken}}, specs.Parts.AreMade}
use Rattle.conf_store.specs.Parts.{IsMade}
use Rattle.conf_store.proofs.pending.Pending.keep_each.Goals as goal

pub loop-edit-preserved : goal.loop-edit-preserved
loop-edit-preserved c =
    let edits = c.args.edits.now in
    let i = c.loop-edit.edit-index in
    let edit = c.edit-item.result in
    let so_far = AreMade-stays (map name_of (map edit_of (take i edits))) c.loop-edit.self c.keep.new.self
    c.in_ok-keep.ensures.stays c.loop-edit.invariant.kept in
    let one = subst (λ n. IsMade n c.keep.new.self) c.name.ensures c.in_ok-keep.ensures.kept in
    record {
      same = c.in_ok-keep.ensures.same ∙ c.loop-edit.invariant.same;
      kept = subst (λ ns. AreMade ns c.keep.new.self) (sym (names-taken edits i edit (omega arith) c.edit-item.is))
          (AreMade-more (map name_of (map edit_of (take i edits))) (name_of (edit_of edit)) c.keep.new.self so_far one);
    }
