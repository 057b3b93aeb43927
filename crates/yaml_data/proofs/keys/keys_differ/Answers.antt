use Rattle.std.proofs.Common.{sym}
use Rattle.yaml_data.proofs.PrintLemmas.{differ_by_prints}
use Rattle.yaml_data.proofs.keys.keys_differ.Goals as goal

pub returns-then-branch : goal.returns-then-branch
returns-then-branch g c = sym (differ_by_prints c.args.pairs.now (c.in_ok-have_distinct_prints.ensures.0 c.if-branch.true))
