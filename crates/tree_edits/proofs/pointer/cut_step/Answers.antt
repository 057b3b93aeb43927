use Rattle.std.proofs.Common.{ap, ◌∙◌, string_bytes, take}
use Rattle.tree_edits.proofs.{Prelude.{chars, IsUtf8-string_bytes}, Cuts.{FindsLast, cut_pointer}}
use Rattle.tree_edits.proofs.pointer.cut_step.Goals as goal

pub returns : goal.returns
returns c steps is =
    let bytes = string_bytes c.args.pointer.now in
    let finds : FindsLast bytes c.rfind.result = rw c.deref.ensures at c.rfind.ensures.cases in
    ap chars (c.truncate.ensures.bytes ∙ ap (λ n. take n bytes) c.unwrap_or-end.ensures)
    ∙ cut_pointer bytes c.rfind.result steps (IsUtf8-string_bytes c.args.pointer.now) finds is
