use Rattle.std.proofs.Common.{sym, ap, ◌∙◌, arith}
use Rattle.yaml_data.proofs.{Prelude.{mapping, sequence}, SeenLemmas.{tree_of-Map, tree_of-Seq, elements_of-step, members_of-step}}
use Rattle.yaml_data.specs.Seen.{Pair, tree_of, elements_of, members_of}
use Rattle.yaml_data.proofs.tree.+copy.Goals as goal

pub copied-returns-in_ok-copied_pairs-in-Map :
    goal.copied-returns-in_ok-copied_pairs-in-Map
copied-returns-in_ok-copied_pairs-in-Map t c =
    tree_of-Map c.in_ok-copied_pairs-in-Map.field-0
    ∙ ap mapping (c.in_ok-copied_pairs-in-Map.ensures ∙ ap members_of c.deref-in-Map.ensures.value)
    ∙ sym (tree_of-Map c.in-Map.pairs) ∙ ap tree_of (sym c.in-Map.is)

pub copied_items-loop-item-preserved : goal.copied_items-loop-item-preserved
copied_items-loop-item-preserved t c =
    let l = c.loop-item in
    ap elements_of c.in_ok-push.ensures.items
    ∙ elements_of-step c.args.items.now l.copies.items l.item-index c.item-item.result c.in_ok-copied.field-0
    (omega arith) c.item-item.is l.invariant c.in_ok-copied.ensures

pub copied_pairs-loop-key-preserved : goal.copied_pairs-loop-key-preserved
copied_pairs-loop-key-preserved t c =
    let l = c.loop-key in
    let copy : Pair = (c.in_ok-try_copy.field-0, c.in_ok-copied.field-0) in
    ap members_of c.in_ok-push.ensures.items
    ∙ members_of-step c.args.pairs.now l.copies.items l.key-index c.loop-key-item.result copy
    (omega arith) c.loop-key-item.is l.invariant c.in_ok-try_copy.ensures c.in_ok-copied.ensures

pub copied-returns-in_ok-copied_items-in-Seq :
    goal.copied-returns-in_ok-copied_items-in-Seq
copied-returns-in_ok-copied_items-in-Seq t c =
    tree_of-Seq c.in_ok-copied_items-in-Seq.field-0
    ∙ ap sequence (c.in_ok-copied_items-in-Seq.ensures ∙ ap elements_of c.deref.ensures.value)
    ∙ sym (tree_of-Seq c.in-Seq.items) ∙ ap tree_of (sym c.in-Seq.is)
