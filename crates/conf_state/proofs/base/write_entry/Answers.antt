use Rattle.std.proofs.Common.{subst, ◌++◌}
use Rattle.conf_state.proofs.Prelude.{on_ok_weaker, chars, spaces, key_lines, value_at, tree_of}
use Rattle.conf_state.proofs.base.write_entry.Goals as goal

pub returns : goal.returns
returns g c =
    let both = g.met.S.Sink.takes_both in
    on_ok_weaker c.write_value.result
    (λ written. subst
    (λ t. g.S.Sink.Takes c.args.sink.now (spaces 2 ++ key_lines 2 (chars c.args.name.now) ++ value_at (tree_of t) 2) c.write_value.new.sink)
    c.tree-tree.ensures.same
    (both _ _ _ _ _ (both _ _ _ _ _ c.in_ok-put_spaces.ensures c.in_ok-write_key.ensures) written))
    c.write_value.ensures
