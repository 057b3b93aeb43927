use Rattle.std.proofs.Common.{◌≡◌, ◌<◌, Ok, Err, length, sym, ap, subst, ◌∙◌, arith}
use Rattle.yaml_config.proofs.Prelude.{cow_str_bytes, chars, err_from_is_err_and, Tree, tree_of, key_in, put, KnowsLast, texts, set-refused}
use Rattle.yaml_config.proofs.{Prelude.{knows-way, knows-last}, Located.at_from-Located, Measured.{set_changes, set_misses}, Planned.split}
use Rattle.yaml_config.{proofs.Planned.{node-small, changes-shifted}, specs.{Changes.ChangesSmall, declared.change.Slot.TheVariants.Value}}
use Rattle.yaml_config.proofs.measure.set_change.Goals as goal

pub returns-in_err-parent-clause-refused : goal.returns-in_err-parent-clause-refused
returns-in_err-parent-clause-refused c =
    let last = c.unwrap.result.0.now in
    let parents = c.unwrap.result.1.now in
    let parts = split c.args.tokens.now last parents (rw c.unwrap.ensures at c.split_last.ensures.cases) in
    let p = err_from_is_err_and c.from_residual.result c.from_residual.ensures.1 in
    rw (p.1, p.2)
    (set-refused (texts c.args.tokens.now) (texts parents) (chars (cow_str_bytes last)) (tree_of c.args.tree.now)
    (tree_of c.args.value.now) c.in_err-parent.field-0.0
    parts.path c.in_err-parent.ensures.refused)

pub put_change-requires-clause-deep : goal.put_change-requires-clause-deep
put_change-requires-clause-deep c =
    let small = node-small _ c.in_ok-parent.parent.slot (tree_of c.args.tree.now) _ c.in_ok-parent.ensures.ok c.requires.tree in small.0

pub put_change-requires-clause-long : goal.put_change-requires-clause-long
put_change-requires-clause-long c =
    let small = node-small _ c.in_ok-parent.parent.slot (tree_of c.args.tree.now) _ c.in_ok-parent.ensures.ok c.requires.tree in small.1

pub returns-in-Ok-clause-ok : goal.returns-in-Ok-clause-ok
returns-in-Ok-clause-ok c =
    let last = c.unwrap.result.0.now in
    let parents = c.unwrap.result.1.now in
    let parts = split c.args.tokens.now last parents (rw c.unwrap.ensures at c.split_last.ensures.cases) in
    let t = tree_of c.args.tree.now in
    let u = tree_of c.in_ok-parent.parent.node.now in
    let slot = c.in_ok-parent.parent.slot in
    let few : length (texts parents) < 18446744073709551616 = omega (arith, parts.count) in
    let edit = subst (λ bytes. (w : Tree) × (put u (chars bytes) (tree_of c.args.value.now) ≡ Ok w)
    × ChangesSmall slot c.in-Ok.change u w) c.as_str-token.ensures.value c.in-Ok.ensures.ok in
    let whole = set_changes (texts c.args.tokens.now) (texts parents) (chars (cow_str_bytes last)) slot t u
    (tree_of c.args.value.now) c.in-Ok.change
    parts.path few c.in_ok-parent.ensures.ok edit in
    (whole.0, whole.1, changes-shifted parents c.in-Ok.change c.shifted.result t whole.0 parts.before c.shifted.ensures whole.2)

pub returns-in-Err-clause-refused : goal.returns-in-Err-clause-refused
returns-in-Err-clause-refused c =
    let last = c.unwrap.result.0.now in
    let parents = c.unwrap.result.1.now in
    let parts = split c.args.tokens.now last parents (rw c.unwrap.ensures at c.split_last.ensures.cases) in
    let u = tree_of c.in_ok-parent.parent.node.now in
    set_misses (texts c.args.tokens.now) (texts parents) (chars (cow_str_bytes last))
    (length c.args.tokens.now) c.in_ok-parent.parent.slot (tree_of c.args.tree.now) u (tree_of c.args.value.now) c.in-Err.miss
    parts.path parts.count c.in_ok-parent.ensures.ok
    (ap (λ b. put u (chars b) (tree_of c.args.value.now)) (sym c.as_str-token.ensures.value) ∙ c.in-Err.ensures.missed)
    ∙ ap Err (sym c.at_step.ensures)

pub parent_at-requires : goal.parent_at-requires
parent_at-requires c =
    let last = c.unwrap.result.0.now in
    let parents = c.unwrap.result.1.now in
    let parts = split c.args.tokens.now last parents (rw c.unwrap.ensures at c.split_last.ensures.cases) in
    knows-way c.args.known (tree_of c.args.tree.now) (texts c.args.tokens.now) (texts parents)
    (chars (cow_str_bytes last)) parts.path c.requires.known

pub key_place-place-requires : goal.key_place-place-requires
key_place-place-requires c =
    let last = c.unwrap.result.0.now in
    let parents = c.unwrap.result.1.now in
    let parts = split c.args.tokens.now last parents (rw c.unwrap.ensures at c.split_last.ensures.cases) in
    let t = tree_of c.args.tree.now in
    let u = tree_of c.in_ok-parent.parent.node.now in
    let slot = c.in_ok-parent.parent.slot in
    subst (λ b. KnowsLast c.args.known (key_in u (chars b))) (sym c.as_str-token.ensures.value)
    (knows-last c.args.known t u (texts c.args.tokens.now) (texts parents) (chars (cow_str_bytes last)) parts.path
    (at_from-Located (texts parents) 1 Value slot t u c.in_ok-parent.ensures.ok) c.requires.known)
