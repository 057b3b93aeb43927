use Rattle.std.proofs.Common.{◌&&◌, refl, sym, ap, ◌∙◌, arith}
use Rattle.yaml_data.proofs.{Prelude.distinct, LevelLemmas.{levels_distinct-append, steps_left-append, step_distinct, step_refused}}
use Rattle.yaml_data.{proofs.LevelLemmas.{and_true, own_refused}, specs.{Keys.{level_distinct, levels_distinct, steps_left}, Seen.tree_of}}
use Rattle.yaml_data.proofs.keys.Level.first_differs.Goals as goal

pub returns-in_default-clause-keys : goal.returns-in_default-clause-keys
returns-in_default-clause-keys c =
    let others = levels_distinct c.args.left.now.items in
    ap (λ b. others && b) c.in_default.ensures ∙ and_true others

pub returns-then-not-branch-clause-keys : goal.returns-then-not-branch-clause-keys
returns-then-not-branch-clause-keys c =
    let others = levels_distinct c.args.left.now.items in
    let first = tree_of c.in-Some.first.now in
    let level = level_distinct c.args.self in
    step_refused (others && level) others level (distinct first) (level_distinct c.in-Some.rest) refl c.in-Some.ensures.0
    (own_refused first (sym c.in_ok-have_own_keys_distinct.ensures ∙ c.if-not-branch.true))

pub returns-clause-keys : goal.returns-clause-keys
returns-clause-keys c =
    let others = levels_distinct c.args.left.now.items in
    let first = tree_of c.in-Some.first.now in
    let level = level_distinct c.args.self in
    let one = ap levels_distinct c.in_ok-push.ensures.items ∙ levels_distinct-append c.args.left.now.items c.in-Some.rest in
    let two = ap levels_distinct c.in_ok-push-2.ensures.items ∙ levels_distinct-append c.push.new.self.items c.inside.result in
    sym (two ∙ ap (λ b. b && level_distinct c.inside.result) one
    ∙ step_distinct (others && level) others level (distinct first) (level_distinct c.in-Some.rest) (level_distinct c.inside.result) _ refl
    c.in-Some.ensures.0 c.inside.ensures.keys (sym c.in_ok-have_own_keys_distinct.ensures ∙ c.if-not-branch.false))

pub returns-clause-size : goal.returns-clause-size
returns-clause-size c =
    let one = ap steps_left c.in_ok-push.ensures.items ∙ steps_left-append c.args.left.now.items c.in-Some.rest in
    let two = ap steps_left c.in_ok-push-2.ensures.items ∙ steps_left-append c.push.new.self.items c.inside.result in
    omega (arith, one, two, c.in-Some.ensures.1, c.inside.ensures.size)
