use Rattle.std.proofs.Common.{[], ◌∷◌, ◌++◌, take, get_or, sym, subst, arith}
use Rattle.tree_path.{proofs.{Prelude.{tree_of, take_more, take_all}, Descents.Lowered-push, UndoLemmas.lead-step}, specs.Steps.Lowered}
use Rattle.tree_path.proofs.undo.lower.Goals as goal

pub exchange-requires : goal.exchange-requires
exchange-requires c =
    let l = c.loop-passed in
    let steps = c.requires.0 in (
      get_or steps l.passed [],
      lead-step steps l.passed (tree_of c.args.tree.now) (tree_of c.args.above.now) (tree_of l.tree) (tree_of l.above)
          c.args.places.now c.loop-passed-test.true c.requires.1 c.requires.2 (l.invariant steps c.requires.1 c.requires.2),
    )

pub loop-passed-preserved : goal.loop-passed-preserved
loop-passed-preserved c = λ steps long leads.
    let l = c.loop-passed in
    let t = tree_of c.args.tree.now in
    let a = tree_of c.args.above.now in
    let token = get_or steps l.passed [] in
    let before = l.invariant steps long leads in
    let there = lead-step steps l.passed t a (tree_of l.tree) (tree_of l.above)
    c.args.places.now c.loop-passed-test.true long leads before in
    let low = Lowered-push (take l.passed steps) token t a (tree_of l.tree) (tree_of l.above)
    (tree_of c.exchange.new.other) (tree_of c.exchange.new.tree) before
    (c.exchange.ensures.taken token there) (c.exchange.ensures.put_there token there) in
    let grown = take l.passed steps ++ token ∷ [] in
    subst (λ ts. Lowered ts t a (tree_of c.swap.new.x) (tree_of c.swap.new.y))
    (sym (take_more steps l.passed [] (omega (arith, long, c.loop-passed-test.true))))
    (subst (λ x. Lowered grown t a (tree_of c.swap.new.x) (tree_of x)) (sym c.swap.ensures.y_after)
    (subst (λ x. Lowered grown t a (tree_of x) (tree_of c.exchange.new.tree)) (sym c.swap.ensures.x_after) low))

pub returns : goal.returns
returns c = λ steps long leads.
    let l = c.loop-passed in
    subst (λ ts. Lowered ts (tree_of c.args.tree.now) (tree_of c.args.above.now) (tree_of l.tree) (tree_of l.above))
    (take_all l.passed steps (omega (arith, long, c.loop-passed-test.false))) (l.invariant steps long leads)
