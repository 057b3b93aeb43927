use Rattle.std.proofs.Common.{◌≡◌, ◌-◌, [], length, take, get_or, refl, sym, ap, subst, ◌∙◌, arith}
use Rattle.tree_path.{proofs.{Prelude.{tree_of, take_all}, Descents.Rebuilt-step, UndoLemmas.{above-place, split-back}}, specs.Paths.child}
use Rattle.tree_path.specs.{Paths.put, Steps.{step_place, Lowered, Rebuilt}}
use Rattle.tree_path.proofs.undo.raise.Goals as goal

pub loop-left-init : goal.loop-left-init
loop-left-init c = (
  omega arith,
  λ steps t a u long leads low.
      let all = take_all (length c.args.places.now) steps (omega (arith, long)) in (
        u,
        subst (λ ts. Lowered ts t a u (tree_of c.args.above.now)) (sym all) low,
        λ r built. subst (λ ts. Rebuilt ts t (tree_of c.args.tree.now) r) all built,
      ),
)

pub exchange-requires : goal.exchange-requires
exchange-requires c =
    let left = c.loop-left.left in
    let ps = c.args.places.now in
    let steps = c.requires.0 in
    let some = c.loop-left-test.true in
    let within = c.loop-left.invariant.0 in
    let l = c.loop-left.invariant.1 steps c.requires.1 c.requires.2 c.requires.3 c.requires.4 c.requires.5 c.requires.6 in (
      get_or steps (left - 1) [],
      ap (λ x. step_place (tree_of x) (get_or steps (left - 1) [])) c.swap.ensures.x_after
          ∙ above-place steps left c.requires.1 c.requires.2 l.0 (tree_of c.loop-left.above) ps some within c.requires.4 c.requires.5 l.1,
    )

pub loop-left-preserved : goal.loop-left-preserved
loop-left-preserved c = (
  omega (arith, c.loop-left.invariant.0),
  λ steps t a u long leads low.
      let left = c.loop-left.left in
      let ps = c.args.places.now in
      let some = c.loop-left-test.true in
      let within = c.loop-left.invariant.0 in
      let token = get_or steps (left - 1) [] in
      let split = split-back steps left some (omega (arith, within, long)) in
      let l = c.loop-left.invariant.1 steps t a u long leads low in
      let below = subst (λ ts. Lowered ts t a l.0 (tree_of c.loop-left.above)) split l.1 in
      let place = ap (λ x. step_place (tree_of x) token) c.swap.ensures.x_after
      ∙ above-place steps left t a l.0 (tree_of c.loop-left.above) ps some within long leads l.1 in
      let step = Rebuilt-step (take (left - 1) steps) token t a l.0 (tree_of c.loop-left.above) (tree_of c.loop-left.tree)
      (tree_of c.exchange.new.other) (tree_of c.exchange.new.tree) below
      (sym (ap (λ x. child (tree_of x) token) c.swap.ensures.x_after) ∙ c.exchange.ensures.taken token place)
      (sym (ap (λ x. put (tree_of x) token (tree_of c.swap.new.y)) c.swap.ensures.x_after
      ∙ ap (λ y. put (tree_of c.loop-left.above) token (tree_of y)) c.swap.ensures.y_after) ∙ c.exchange.ensures.put_there token place) in
      (step.0, step.1, λ r built. l.2 r (subst (λ ts. Rebuilt ts t (tree_of c.loop-left.tree) r) (sym split) (step.2 r built))),
)

pub returns : goal.returns
returns c = λ steps t a u long leads low.
    let none : c.loop-left.left ≡ 0 = omega (arith, c.loop-left-test.false) in
    let l = c.loop-left.invariant.1 steps t a u long leads low in
    l.2 (tree_of c.loop-left.tree)
    (subst (λ n. Rebuilt (take n steps) t (tree_of c.loop-left.tree) (tree_of c.loop-left.tree)) (sym none) refl)
