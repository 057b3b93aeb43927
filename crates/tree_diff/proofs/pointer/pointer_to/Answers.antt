use Rattle.std.proofs.Common.{◌≡◌, ◌+◌, ◌++◌, ◌∷◌, [], take, sym, ap, ◌∙◌, arith}
use Rattle.tree_diff.proofs.{Prelude.{chars, chars-nil, pointer_text, token_text, slash, take_more, take_all}, Levels.path_of_levels-push}
use Rattle.tree_diff.{proofs.Pointers.pointer_text-push, specs.Walks.{path_of_levels, token_of}}
use Rattle.tree_diff.proofs.pointer.pointer_to.Goals as goal

pub loop-level-init : goal.loop-level-init
loop-level-init c = ap chars c.new-pointer.ensures.bytes ∙ chars-nil

pub loop-level-preserved : goal.loop-level-preserved
loop-level-preserved c =
    let levels = c.args.levels.now in
    let i = c.loop-level.level-index in
    let level = c.level-item.result in
    let more : take i levels ++ level ∷ [] ≡ take (i + 1) levels =
    ap (λ l. take i levels ++ l ∷ []) c.level-item.is ∙ sym (take_more levels i level (omega arith)) in
    c.in_ok-push_step.ensures ∙ ap (λ cs. cs ++ slash ∷ token_text (token_of level.step)) c.loop-level.invariant
    ∙ sym (pointer_text-push (path_of_levels (take i levels)) (token_of level.step))
    ∙ ap pointer_text (sym (path_of_levels-push (take i levels) level) ∙ ap path_of_levels more)

pub returns : goal.returns
returns c =
    c.loop-level.invariant
    ∙ ap (λ ls. pointer_text (path_of_levels ls)) (take_all c.loop-level.level-index c.args.levels.now c.loop-level-test.false)
