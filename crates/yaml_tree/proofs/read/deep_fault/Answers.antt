use Rattle.yaml_tree.proofs.ReadLemmas.{keys_refused}
use Rattle.yaml_tree.proofs.read.deep_fault.Goals as goal

pub returns-in-Ok-default-true : goal.returns-in-Ok-default-true
returns-in-Ok-default-true c =
    let known = c.in-Ok-default-true.ensures in
    let keys = known.keys in
    let tests = c.in-Ok-default-true in
    (known.tree, known.is_tree, cc)

pub returns-in-Ok-default-false : goal.returns-in-Ok-default-false
returns-in-Ok-default-false c =
    let known = c.in-Ok-default-false.ensures in
    let keys = known.keys in
    let tests = c.in-Ok-default-false in
    (known.tree, known.is_tree, cc)

pub returns-in-Err : goal.returns-in-Err
returns-in-Err c = keys_refused c.args.events c.in-Err.fault c.in-Err.ensures
