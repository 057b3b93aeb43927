use Rattle.tree_edits.proofs.SetLaws.{insert_element-items, push_element-items}
use Rattle.tree_edits.proofs.laws.value_is_between.Goals as goal

pub returns : goal.returns
returns c = record { between = insert_element-items; last = push_element-items }
