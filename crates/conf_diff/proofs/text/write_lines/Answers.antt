use Rattle.std.proofs.Common.{codes, refl, arith}
use Rattle.conf_diff.proofs.Prelude.{ascii, drop_all, drop_item}
use Rattle.conf_diff.proofs.text.write_lines.Goals as goal

pub loop-edit-init : goal.loop-edit-init
loop-edit-init g c = λ end left. left

pub loop-edit-preserved : goal.loop-edit-preserved
loop-edit-preserved g c =
    let l = c.loop-edit in
    let both = g.met.S.Sink.takes_both in
    let here = drop_item c.args.edits.now l.edit-index c.edit-item.result (omega arith) c.edit-item.is in
    let dash = rw (ascii (codes "- ") refl) at c.in_ok-put_text.ensures in
    λ end left. l.invariant end (rw (here) (both _ _ _ _ _ (both _ _ _ _ _ dash c.in_ok-write_edit.ensures) left))

pub returns : goal.returns
returns g c =
    let l = c.loop-edit in
    let none = drop_all l.edit-index c.args.edits.now (omega arith) in
    l.invariant l.sink (rw (none) (g.met.S.Sink.takes_none l.sink))
