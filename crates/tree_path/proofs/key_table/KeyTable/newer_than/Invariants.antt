use Rattle.tree_path.proofs.key_table.KeyTable.newer_than.Given as goal

abbrev pub invariant-loop-link : goal.invariant-loop-link
invariant-loop-link l = Unit {0}

abbrev pub decreases-loop-link : goal.decreases-loop-link
decreases-loop-link l = l.link
