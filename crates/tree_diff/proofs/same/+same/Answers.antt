use Rattle.std.proofs.Common.{sym}
use Rattle.tree_diff.proofs.ChoiceLemmas.{elements-lengths, members-lengths}
use Rattle.tree_diff.proofs.same.+same.Goals as goal

pub are_same_elements-returns-then-items-others : goal.are_same_elements-returns-then-items-others
are_same_elements-returns-then-items-others t c =
    sym (elements-lengths c.args.limit c.args.items.now c.args.others.now c.if-items-others.true)

pub are_same_members-returns-then-pairs-others : goal.are_same_members-returns-then-pairs-others
are_same_members-returns-then-pairs-others t c =
    sym (members-lengths c.args.limit c.args.pairs.now c.args.others.now c.if-pairs-others.true)
