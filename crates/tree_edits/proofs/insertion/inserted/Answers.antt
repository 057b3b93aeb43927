use Rattle.std.proofs.Common.{None, Some, sym, ◌∙◌}
use Rattle.tree_edits.{proofs.{Prelude.tree_of, Points.{list-there, list_refused, list_set, plain_set}}, specs.Changes.text_of}
use Rattle.tree_edits.specs.Insertions.{IsPoint}
use Rattle.tree_edits.proofs.insertion.inserted.Goals as goal

pub returns-in-Ok-clause-ok : goal.returns-in-Ok-clause-ok
returns-in-Ok-clause-ok c =
    let value = tree_of c.args.value in
    let point : IsPoint (tree_of c.args.tree.now) (text_of c.args.path) (Some c.in-Ok-Some.point) =
    rw (sym c.tree.ensures.same) (rw (sym c.deref.ensures) (rw c.in-Ok-Some.field-0-is at c.in-Ok-Some.ensures)) in
    list_set (tree_of c.args.tree.now) (text_of c.args.path) (text_of c.set_of_list.result.path) value (tree_of c.in-Ok.list)
    (tree_of c.set_of_list.result.value) point.spelled (sym c.in-Ok.ensures.ok ∙ point.leads value)
    c.set_of_list.ensures.list c.set_of_list.ensures.path

pub returns-in-Err-list_with-clause-refused : goal.returns-in-Err-list_with-clause-refused
returns-in-Err-list_with-clause-refused c =
    let value = tree_of c.args.value in
    let point : IsPoint (tree_of c.args.tree.now) (text_of c.args.path) (Some c.in-Ok-Some.point) =
    rw (sym c.tree.ensures.same) (rw (sym c.deref.ensures) (rw c.in-Ok-Some.field-0-is at c.in-Ok-Some.ensures)) in
    let there = list-there c.in-Ok-Some.point.elements.now c.in-Ok-Some.point.place value point.inside in
    list_refused (tree_of c.args.tree.now) (text_of c.args.path) value there.0 c.in-Err-list_with.fault
    (sym there.1 ∙ point.leads value) (c.in-Err-list_with.ensures.refused there.0 there.1)

pub returns-in-Ok-None-clause-ok : goal.returns-in-Ok-None-clause-ok
returns-in-Ok-None-clause-ok c =
    let value = tree_of c.args.value in
    let point : IsPoint (tree_of c.args.tree.now) (text_of c.args.path) None =
    rw (sym c.tree.ensures.same) (rw (sym c.deref.ensures) (rw c.in-Ok-None.field-0-is at c.in-Ok-None.ensures)) in
    plain_set (tree_of c.args.tree.now) (text_of c.args.path) value (point.leads value)
