use Rattle.std.proofs.{Common.{◌≡◌, Some, refl, sym, ap, subst, ◌∙◌, arith}, lemmas.Result.{IfErr-weaker, IfOk-weaker}}
use Rattle.tree_edits.proofs.Prelude.{depth, distinct, elements_of, option_map-Some, sequence, tree_of, tree_of-Seq}
use Rattle.tree_edits.proofs.Elements.{insert_element-depth, insert_element-distinct, inserted-list, inserted-sequence, same-length}
use Rattle.{tree_edits.specs.{Changes.IsRefused, Insertions.insert_element}, yaml_config.proofs.Measured.vec_counted}
use Rattle.yaml_data.specs.declared.tree.Tree.TheVariants.{Seq}
use Rattle.tree_edits.proofs.insertion.list_with.Goals as goal

pub returns-then-depth-clause-refused : goal.returns-then-depth-clause-refused
returns-then-depth-clause-refused c list is =
    let o = option_map-Some sequence _ list is in
    let deep = insert_element-depth (elements_of c.args.point.elements.now) o.0 c.args.point.place (tree_of c.args.value) o.1 in
    let same = ap depth o.2 in
    omega (arith, c.if-depth.true, c.depth.ensures.depth)

pub insert-requires : goal.insert-requires
insert-requires c =
    let long = same-length c.in_ok-elements.elements.items c.args.point.elements.now c.in_ok-elements.ensures in
    let counted = vec_counted c.in_ok-elements.elements _ refl in
    omega (arith, long, counted, c.requires.inside)

-- the elements with the value
made : (c : goal.In_ok-insert) → insert_element (elements_of c.args.point.elements.now) c.args.point.place (tree_of c.args.value)
    ≡ Some (elements_of c.insert.new.self.items)
made c =
    inserted-list c.args.point.elements.now c.in_ok-elements.elements.items c.insert.new.self.items c.args.point.place
    (tree_of c.args.value) c.into_tree.result c.in_ok-elements.ensures c.requires.inside c.in_ok-insert.ensures.items
    (ap tree_of c.into_tree.ensures.same)

pub value_of-requires-clause-keys : goal.value_of-requires-clause-keys
value_of-requires-clause-keys c =
    ap distinct (tree_of-Seq c.insert.new.self)
    ∙ insert_element-distinct (elements_of c.args.point.elements.now) _ c.args.point.place (tree_of c.args.value) c.requires.kept.keys
    c.into_tree.ensures.kept.keys (made c)

pub value_of-requires-clause-depth : goal.value_of-requires-clause-depth
value_of-requires-clause-depth c =
    let deep = insert_element-depth (elements_of c.args.point.elements.now) _ c.args.point.place (tree_of c.args.value) (made c) in
    let seen = ap depth (tree_of-Seq c.insert.new.self) in
    let fits = c.requires.kept.deep in
    omega (arith, deep, seen, fits, c.if-depth.false, c.depth.ensures.depth)

pub returns-clause-ok : goal.returns-clause-ok
returns-clause-ok c =
    let listed = inserted-sequence c.args.point.elements.now c.in_ok-elements.elements.items c.insert.new.self c.args.point.place
    (tree_of c.args.value) c.into_tree.result c.in_ok-elements.ensures c.requires.inside c.in_ok-insert.ensures.items
    (ap tree_of c.into_tree.ensures.same) in
    IfOk-weaker c.value_of.result _ _ (λ list is. listed ∙ ap Some (sym is)) c.value_of.ensures.ok

pub returns-clause-refused : goal.returns-clause-refused
returns-clause-refused c =
    let listed = inserted-sequence c.args.point.elements.now c.in_ok-elements.elements.items c.insert.new.self c.args.point.place
    (tree_of c.args.value) c.into_tree.result c.in_ok-elements.ensures c.requires.inside c.in_ok-insert.ensures.items
    (ap tree_of c.into_tree.ensures.same) in
    IfErr-weaker c.value_of.result _ _ (λ fault refused list is.
    let same : tree_of (Seq c.insert.new.self) ≡ list = cc in
    subst (λ t. IsRefused t fault) same refused) c.value_of.ensures.refused
