use Rattle.std.proofs.Common.{IsPermutation, sym, subst}
use Rattle.yaml_data.{specs.Prints.key_prints, proofs.PrintLemmas.{IsAscending, distinct-from_ascending, ascending-from_distinct}}
use Rattle.yaml_data.proofs.prints.have_distinct_prints.Goals as goal

pub returns : goal.returns
returns g c =
    let ps = key_prints c.args.pairs.now in
    let qs = c.sort_unstable.new.self.items in
    let moved = subst (λ xs. IsPermutation xs qs) c.in_ok-prints.ensures c.sort_unstable.ensures.permutation in
    let same = c.deref.ensures.value in (
      λ yes. distinct-from_ascending ps qs moved (subst IsAscending same (c.ascend.ensures.0 yes)),
      λ once. c.ascend.ensures.1 (subst IsAscending (sym same) (ascending-from_distinct ps qs moved c.sort_unstable.ensures.sorted once)),
    )
