use Rattle.std.proofs.Common.{sym}
use Rattle.conf_conditions.proofs.SameLemmas.{elements-lengths, members-lengths}
use Rattle.conf_conditions.proofs.same_tree.+same.Goals as goal

pub are_same_items-returns-then-items-others : goal.are_same_items-returns-then-items-others
are_same_items-returns-then-items-others t c = sym (elements-lengths c.args.items.now c.args.others.now c.if-items-others.true)

pub are_same_pairs-returns-then-pairs-others : goal.are_same_pairs-returns-then-pairs-others
are_same_pairs-returns-then-pairs-others t c = sym (members-lengths c.args.pairs.now c.args.others.now c.if-pairs-others.true)
