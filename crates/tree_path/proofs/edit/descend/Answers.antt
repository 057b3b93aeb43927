use Rattle.std.proofs.Common.{Err, [], ◌∷◌, ◌++◌, take, drop, ◌+◌, sym, ap, subst, ◌∙◌}
use Rattle.tree_path.proofs.{Prelude.{cow_str_bytes, chars, tree_of, texts}, Descents.{texts-split, texts-turn, at_from-missed}}
use Rattle.tree_path.proofs.{Descents.{at_from-Lowered, Lowered-push, Rebuilt-same}, Ways.{knows-prefix, knows-step, place-missed}}
use Rattle.tree_path.specs.Steps.{step_place, KnowsStep, KnowsWay, Lowered}
use Rattle.tree_path.proofs.edit.descend.Goals as goal

pub step_place-requires : goal.step_place-requires
step_place-requires c =
    let l = c.loop-passed in
    let tokens = c.args.tokens.now in
    let t = tree_of c.args.tree.now in
    subst (λ b. KnowsStep c.args.known l.passed (tree_of l.tree) (chars b)) (sym c.as_str.ensures.value)
    (knows-step c.args.known tokens l.passed c.index-tokens-passed.result t
    (tree_of l.tree) c.loop-passed-test.true c.index-tokens-passed.is c.requires
    (at_from-Lowered (texts (take l.passed tokens)) 1 t (tree_of c.args.above.now) (tree_of l.tree) (tree_of l.above) l.invariant))

pub exchange-requires : goal.exchange-requires
exchange-requires c = (chars c.as_str.result.now, sym c.in-Ok.ensures)

pub ascend-requires : goal.ascend-requires
ascend-requires c =
    let l = c.loop-passed in
    let tokens = c.args.tokens.now in
    let token = c.index-tokens-passed.result in
    let t = tree_of c.args.tree.now in (
      t,
      tree_of c.args.above.now,
      tree_of l.tree,
      l.invariant,
      knows-prefix c.args.known (texts (take l.passed tokens)) (chars (cow_str_bytes token) ∷ texts (drop (l.passed + 1) tokens)) t
          (subst (λ ts. KnowsWay c.args.known ts t)
          (texts-split tokens l.passed token c.loop-passed-test.true c.index-tokens-passed.is) c.requires),
    )

pub returns-in-Err-clause-refused : goal.returns-in-Err-clause-refused
returns-in-Err-clause-refused c =
    let l = c.loop-passed in
    let token = c.index-tokens-passed.result in
    at_from-missed c.args.tokens.now l.passed token (tree_of c.args.tree.now) (tree_of l.tree) c.in-Err.miss
    c.loop-passed-test.true c.index-tokens-passed.is
    (at_from-Lowered (texts (take l.passed c.args.tokens.now)) 1 (tree_of c.args.tree.now) (tree_of c.args.above.now)
    (tree_of l.tree) (tree_of l.above) l.invariant)
    (place-missed (tree_of l.tree) (chars (cow_str_bytes token)) c.in-Err.miss
    (ap (λ bytes. step_place (tree_of l.tree) (chars bytes)) (sym c.as_str.ensures.value) ∙ sym c.in-Err.ensures))
    ∙ ap Err (sym c.at_step.ensures)

pub returns-in-Err-clause-unchanged : goal.returns-in-Err-clause-unchanged
returns-in-Err-clause-unchanged c =
    let l = c.loop-passed in
    let t = tree_of c.args.tree.now in
    let a = tree_of c.args.above.now in
    Rebuilt-same (texts (take l.passed c.args.tokens.now)) t a (tree_of l.tree) (tree_of l.above) (tree_of c.ascend.new.tree) l.invariant
    (c.ascend.ensures t a (tree_of l.tree) l.invariant).0

pub loop-passed-preserved : goal.loop-passed-preserved
loop-passed-preserved c =
    let l = c.loop-passed in
    let token = c.index-tokens-passed.result in
    let t = tree_of c.args.tree.now in
    let a = tree_of c.args.above.now in
    let text = chars (cow_str_bytes token) in
    let there = ap (λ b. step_place (tree_of l.tree) (chars b)) (sym c.as_str.ensures.value) ∙ sym c.in-Ok.ensures in
    let grown = texts (take l.passed c.args.tokens.now) ++ text ∷ [] in
    let low = Lowered-push (texts (take l.passed c.args.tokens.now)) text t a (tree_of l.tree) (tree_of l.above)
    (tree_of c.exchange.new.other) (tree_of c.exchange.new.tree) l.invariant
    (c.exchange.ensures.taken text there) (c.exchange.ensures.put_there text there) in
    subst (λ ts. Lowered ts t a (tree_of c.swap.new.x) (tree_of c.swap.new.y))
    (sym (texts-turn c.args.tokens.now l.passed token c.loop-passed-test.true c.index-tokens-passed.is))
    (subst (λ x. Lowered grown t a (tree_of c.swap.new.x) (tree_of x)) (sym c.swap.ensures.y_after)
    (subst (λ x. Lowered grown t a (tree_of x) (tree_of c.exchange.new.tree)) (sym c.swap.ensures.x_after) low))
