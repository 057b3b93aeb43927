use Rattle.conf_record.proofs.{Prelude.{IfOk-weaker, tree_of}, TreeLemmas.{no_record, one_record}}
use Rattle.conf_record.proofs.read.read_record.Goals as goal

pub record_from-requires : goal.record_from-requires
record_from-requires c = let given = rw c.in-Some.is at c.in_ok-tree.ensures.some in record { kept = given.gives.good }

pub returns-in-Some-clause-some : goal.returns-in-Some-clause-some
returns-in-Some-clause-some c =
    IfOk-weaker c.record_from.result _ _ (λ read e. one_record c.bytes_give_one.ensures c.args.bytes.now (tree_of c.in-Some.tree)
    (rw c.in-Some.is at c.in_ok-tree.ensures.some) read e) c.record_from.ensures

pub returns-in-Some-clause-none : goal.returns-in-Some-clause-none
returns-in-Some-clause-none c =
    IfOk-weaker c.record_from.result _ _ (λ read e. no_record c.bytes_give_one.ensures c.args.bytes.now (tree_of c.in-Some.tree)
    (rw c.in-Some.is at c.in_ok-tree.ensures.some) read e) c.record_from.ensures

pub returns-in-None-clause-none : goal.returns-in-None-clause-none
returns-in-None-clause-none c = λ command number r.
    (rw c.in-None.is at c.in_ok-tree.ensures.none) r.reads.tree (record { utf8 = r.utf8; gives = r.reads.gives })
