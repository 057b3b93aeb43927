use Rattle.std.proofs.Common.{◌-◌, ◌<◌, refl, arith}
use Rattle.yaml_tree.proofs.PartLemmas.{members_by-last}
use Rattle.yaml_tree.proofs.parts.OpenMap.put_value.Goals as goal

pub returns-in-Some-clause-pairs : goal.returns-in-Some-clause-pairs
returns-in-Some-clause-pairs g c =
    let pairs = c.args.self.now.pairs in
    let filled : 0 < pairs.len = c.in-Some.ensures.variant.0 refl in
    members_by-last g.V.Kept.tree pairs.items (pairs.len - 1) c.in-Some.pair.now c.args.value
    (omega (arith, pairs.ok.0, filled)) c.in-Some.ensures.value
