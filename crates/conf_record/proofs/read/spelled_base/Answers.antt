use Rattle.std.proofs.Common.{sym, ap, ◌∙◌}
use Rattle.conf_record.proofs.{Prelude.{IfOk-weaker, tree_of}, PieceLemmas.own_parts, TreeLemmas.{no_parts, one_base, no_base}}
use Rattle.conf_record.specs.Reading.{state_of_parts}
use Rattle.conf_record.proofs.read.spelled_base.Goals as goal

pub returns-in-None-clause-none : goal.returns-in-None-clause-none
returns-in-None-clause-none c = λ state r.
    (rw c.in-None.is at c.in_ok-tree.ensures.none) r.reads.tree (record { utf8 = r.utf8; gives = r.reads.gives })

pub base_from-requires : goal.base_from-requires
base_from-requires c = let given = rw c.in-Some.is at c.in_ok-tree.ensures.some in record { kept = given.gives.good }

pub configurations-requires : goal.configurations-requires
configurations-requires c = own_parts c.in-Some-base_from.pairs.items c.in-Some-base_from.ensures.kept

pub returns-in_ok-configs-in-Some-base_from-clause-some : goal.returns-in_ok-configs-in-Some-base_from-clause-some
returns-in_ok-configs-in-Some-base_from-clause-some c =
    let parts = rw (sym c.in_ok-configs-in-Some-base_from.ensures)
    at (ap state_of_parts (sym c.in-Some-base_from.is) ∙ c.base_from.ensures.read) in
    IfOk-weaker c.from_parts.result _ _
    (λ read e. one_base c.bytes_give_one.ensures c.args.bytes.now (tree_of c.in-Some.tree) (rw c.in-Some.is at c.in_ok-tree.ensures.some)
    c.in_ok-configs-in-Some-base_from.configs.items c.in-Some-base_from.count parts read e) c.from_parts.ensures.some

pub returns-in_ok-configs-in-Some-base_from-clause-none : goal.returns-in_ok-configs-in-Some-base_from-clause-none
returns-in_ok-configs-in-Some-base_from-clause-none c =
    let parts = rw (sym c.in_ok-configs-in-Some-base_from.ensures)
    at (ap state_of_parts (sym c.in-Some-base_from.is) ∙ c.base_from.ensures.read) in
    IfOk-weaker c.from_parts.result _ _
    (λ read e. no_base c.bytes_give_one.ensures c.args.bytes.now (tree_of c.in-Some.tree) (rw c.in-Some.is at c.in_ok-tree.ensures.some)
    c.in_ok-configs-in-Some-base_from.configs.items c.in-Some-base_from.count parts read e) c.from_parts.ensures.none

pub returns-in-None-base_from-clause-none : goal.returns-in-None-base_from-clause-none
returns-in-None-base_from-clause-none c =
    no_parts c.bytes_give_one.ensures c.args.bytes.now (tree_of c.in-Some.tree) (rw c.in-Some.is at c.in_ok-tree.ensures.some)
    (ap state_of_parts (sym c.in-None-base_from.is) ∙ c.base_from.ensures.read)
