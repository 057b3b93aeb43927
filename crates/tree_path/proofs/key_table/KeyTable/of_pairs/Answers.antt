use Rattle.std.proofs.Common.{[], ◌∷◌, ◌++◌, take, sym, subst}
use Rattle.tree_path.{proofs.{Prelude.{chars, members_of}, IndexLemmas.keys-take}, specs.Tables.{Lists, keys_of}}
use Rattle.tree_path.proofs.key_table.KeyTable.of_pairs.Goals as goal

pub loop-place-preserved : goal.loop-place-preserved
loop-place-preserved c =
    let ps = c.args.pairs.now in
    let place = c.loop-place.place in
    let before = keys_of (members_of (take place ps)) in
    subst (Lists c.add.new.self) (sym (keys-take ps place c.index-pairs-place.result c.loop-place-test.true c.index-pairs-place.is))
    (subst (λ bytes. Lists c.add.new.self (before ++ chars bytes ∷ [])) c.as_str.ensures
    (c.in_ok-add.ensures before c.loop-place.invariant))
