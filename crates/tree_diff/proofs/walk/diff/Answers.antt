use Rattle.std.proofs.Common.{◌≡◌, ℕ, ◌<◌, ◌-◌, ◌++◌, List, [], ◌∷◌, map, take, refl, sym, ap, ap₂, ◌∙◌, arith}
use Rattle.tree_diff.proofs.{Prelude.{append-nil, tree_of}, DiffLaws.{differences-made, differences-same}, Performing.performed-written}
use Rattle.tree_diff.proofs.Levels.{differences_left-start, differences_left-end, differences_left-next, steps_left-push}
use Rattle.tree_diff.specs.{declared.{edit.Edit.Edit, level.Level.Level}, Diffs.{Change, changes_of, performed}, Differences.differences}
use Rattle.tree_diff.specs.{Differences.written, Walks.{differences_left, path_of_levels, steps_left, task_differences, under}}
use Rattle.tree_diff.proofs.walk.diff.Goals as goal

pub loop-level-init : goal.loop-level-init
loop-level-init c =
    let first = task_differences c.between.result in
    c.in_ok-carry_out.ensures.differences
    ∙ ap₂ (λ es ls. changes_of es ++ map written (map (under (path_of_levels ls)) first ++ differences_left ls))
    c.new-edits.ensures.items c.new-levels.ensures.items
    ∙ ap (map written) (differences_left-start first ∙ c.between.ensures.differences)

pub loop-level-smaller-in_default-next : goal.loop-level-smaller-in_default-next
loop-level-smaller-in_default-next c =
    let all = ap steps_left c.in-Some.ensures.items ∙ steps_left-push c.pop.new.self.items c.in-Some.level in
    let less : steps_left c.pop.new.self.items < steps_left c.loop-level.levels.items = omega (arith, all) in
    less

pub loop-level-preserved-in_default-next : goal.loop-level-preserved-in_default-next
loop-level-preserved-in_default-next c =
    ap (λ ds. changes_of c.loop-level.edits.items ++ map written ds)
    (sym (ap differences_left c.in-Some.ensures.items
    ∙ differences_left-end c.pop.new.self.items c.in-Some.level c.in_default-next.ensures))
    ∙ c.loop-level.invariant

pub loop-level-smaller : goal.loop-level-smaller
loop-level-smaller c =
    let before = ap steps_left c.in-Some.ensures.items ∙ steps_left-push c.pop.new.self.items c.in-Some.level in
    let after = ap steps_left c.in_ok-push.ensures.items ∙ steps_left-push c.pop.new.self.items c.in-Some-next.level in
    let less : steps_left c.carry_out-in-Some.new.levels.items < steps_left c.loop-level.levels.items =
    omega (arith, before, after, c.in_ok-carry_out-2.ensures.steps, c.in-Some-next.ensures.1) in
    less

pub loop-level-preserved : goal.loop-level-preserved
loop-level-preserved c =
    let edits = c.loop-level.edits.items in
    let task = task_differences c.in-Some-next.task in
    c.in_ok-carry_out-2.ensures.differences
    ∙ ap (λ ls. changes_of edits ++ map written (map (under (path_of_levels ls)) task ++ differences_left ls)) c.in_ok-push.ensures.items
    ∙ ap (λ ds. changes_of edits ++ map written ds)
    (differences_left-next c.pop.new.self.items c.in-Some.level c.in-Some-next.level task c.in-Some-next.ensures.0
    ∙ sym (ap differences_left c.in-Some.ensures.items))
    ∙ c.loop-level.invariant

no_changes : (es : List Edit) → changes_of es ≡ [] → es ≡ []
no_changes [] none = refl
no_changes (e ∷ es) none = cc

-- where no level is left, the edits are all differences
all_found : (es : List Edit) (ls rest : List Level) (n : ℕ) (cs : List Change) → ls ≡ rest ++ [] → rest ≡ take (n - 1) ls → n ≡ 0
    → changes_of es ++ map written (differences_left ls) ≡ cs → changes_of es ≡ cs
all_found es ls rest n cs items is empty all =
    let none : ls ≡ [] = items ∙ ap (λ xs. xs ++ []) (is ∙ ap (λ m. take (m - 1) ls) empty) in
    sym (append-nil (changes_of es)) ∙ ap (λ xs. changes_of es ++ map written (differences_left xs)) (sym none) ∙ all

pub returns-clause-differences : goal.returns-clause-differences
returns-clause-differences c =
    all_found c.loop-level.edits.items c.loop-level.levels.items _ _ _ c.in_default.ensures.items c.in_default.ensures.rest
    c.in_default.ensures.cases.0 c.loop-level.invariant

pub returns-clause-diff_makes_the_second : goal.returns-clause-diff_makes_the_second
returns-clause-diff_makes_the_second c =
    let first = tree_of c.args.first.now in
    let second = tree_of c.args.second.now in
    let all = all_found c.loop-level.edits.items c.loop-level.levels.items _ _ _ c.in_default.ensures.items c.in_default.ensures.rest
    c.in_default.ensures.cases.0 c.loop-level.invariant in
    ap (λ cs. performed cs first) all ∙ performed-written (differences first second) first
    ∙ differences-made first second c.requires.first c.requires.second

pub returns-clause-equal_trees_do_not_differ : goal.returns-clause-equal_trees_do_not_differ
returns-clause-equal_trees_do_not_differ c = λ same.
    let first = tree_of c.args.first.now in
    let all = all_found c.loop-level.edits.items c.loop-level.levels.items _ _ _ c.in_default.ensures.items c.in_default.ensures.rest
    c.in_default.ensures.cases.0 c.loop-level.invariant in
    no_changes c.loop-level.edits.items
    (all ∙ ap (λ t. map written (differences first t)) (sym same) ∙ ap (map written) (differences-same first))
