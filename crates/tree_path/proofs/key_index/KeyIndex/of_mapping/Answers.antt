use Rattle.std.proofs.Common.{ap, ◌∙◌}
use Rattle.tree_path.{proofs.Prelude.{mapping, members_of}, specs.Paths.at}
use Rattle.tree_path.proofs.key_index.KeyIndex.of_mapping.Goals as goal

pub returns : goal.returns
returns c = λ t there.
    (mapping (members_of c.args.pairs.now), ap (at t) c.in_ok-steps.ensures ∙ there, c.in_ok-table.ensures)
