use Rattle.std.proofs.Common.{◌&&◌, ◌<◌, sym, ap, ◌∙◌, arith}
use Rattle.yaml_data.{specs.{Keys.{levels_distinct, steps_left}, Seen.tree_of}, proofs.LevelLemmas.levels_distinct-append}
use Rattle.yaml_data.proofs.LevelLemmas.{steps_left-append, own_refused}
use Rattle.yaml_data.proofs.keys.has_distinct_keys.Goals as goal

pub returns-then-not-branch : goal.returns-then-not-branch
returns-then-not-branch c =
    sym (own_refused (tree_of c.args.tree.now) (sym c.in_ok-have_own_keys_distinct.ensures ∙ c.if-not-branch.true))

pub returns-then-not-branch-2 : goal.returns-then-not-branch-2
returns-then-not-branch-2 c =
    let all = ap levels_distinct c.in-Some.ensures.items ∙ levels_distinct-append c.pop.new.self.items c.in-Some.level in
    sym (all ∙ c.in_ok-first_differs.ensures.keys ∙ ap (λ b. b && levels_distinct c.first_differs.new.left.items) c.if-not-branch-2.true)
    ∙ c.loop-level.invariant

pub loop-level-smaller : goal.loop-level-smaller
loop-level-smaller c =
    let all = ap steps_left c.in-Some.ensures.items ∙ steps_left-append c.pop.new.self.items c.in-Some.level in
    let less : steps_left c.first_differs.new.left.items < steps_left c.loop-level.levels.items =
    omega (arith, all, c.in_ok-first_differs.ensures.size) in
    less

pub loop-level-preserved : goal.loop-level-preserved
loop-level-preserved c =
    let all = ap levels_distinct c.in-Some.ensures.items ∙ levels_distinct-append c.pop.new.self.items c.in-Some.level in
    sym (all ∙ c.in_ok-first_differs.ensures.keys ∙ ap (λ b. b && levels_distinct c.first_differs.new.left.items) c.if-not-branch-2.false)
    ∙ c.loop-level.invariant
