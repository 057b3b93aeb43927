use Rattle.std.{proofs.Common.{◌≡◌, length, ap, ◌∙◌, arith}, specs.declared.alloc.Global.Global}
use Rattle.tree_edits.proofs.{Prelude.{CowStr, chars, cow_str_bytes, depth, distinct, length-map, texts, tree_of}, Behind.under_keys-depth}
use Rattle.tree_edits.proofs.Behind.{under_keys-distinct}
use Rattle.tree_edits.proofs.parents.value_under.Goals as goal

pub returns-then-saturating_add-clause-refused : goal.returns-then-saturating_add-clause-refused
returns-then-saturating_add-clause-refused c =
    let deep = under_keys-depth (texts c.args.keys.now) (tree_of c.args.value) in
    let count : length (texts c.args.keys.now) ≡ length c.args.keys.now =
    length-map c.args.keys.now (λ (x : CowStr Global). chars (cow_str_bytes x)) in
    omega (arith, deep, count, c.if-saturating_add.true, c.saturating_add.ensures, c.depth.ensures.depth)

pub value_of-requires-clause-keys : goal.value_of-requires-clause-keys
value_of-requires-clause-keys c =
    ap distinct c.in-Ok.ensures
    ∙ under_keys-distinct (texts c.args.keys.now) (tree_of c.into_tree.result)
    (ap distinct (ap tree_of c.into_tree.ensures.same) ∙ c.into_tree.ensures.kept.keys)

pub value_of-requires-clause-depth : goal.value_of-requires-clause-depth
value_of-requires-clause-depth c =
    let deep = ap depth c.in-Ok.ensures ∙ under_keys-depth (texts c.args.keys.now) (tree_of c.into_tree.result) in
    let same = ap depth (ap tree_of c.into_tree.ensures.same) in
    let count : length (texts c.args.keys.now) ≡ length c.args.keys.now =
    length-map c.args.keys.now (λ (x : CowStr Global). chars (cow_str_bytes x)) in
    omega (arith, deep, same, count, c.if-saturating_add.false, c.saturating_add.ensures, c.depth.ensures.depth)
