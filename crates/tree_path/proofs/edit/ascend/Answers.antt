use Rattle.std.proofs.Common.{◌≡◌, ◌-◌, length, take, sym, ap, ap₂, subst, ◌∙◌, refl, arith}
use Rattle.tree_path.proofs.{Prelude.{cow_str_bytes, IsOk, chars, tree_of, texts, take_all}, Descents.{texts-back, at_from-Lowered}}
use Rattle.tree_path.proofs.{Descents.{Lowered-pop, Lowered-there, Rebuilt-step}, Ways.{knows-step, knows-above, place-there}}
use Rattle.tree_path.specs.{Paths.{child, put}, Steps.{step_place, KnowsStep, Lowered, Rebuilt}}
use Rattle.tree_path.proofs.edit.ascend.Goals as goal

pub loop-left-init : goal.loop-left-init
loop-left-init c =
    let all = take_all (length c.args.tokens.now) c.args.tokens.now (omega arith) in (
      omega arith,
      λ t a u low. (
        u,
        subst (λ ts. Lowered (texts ts) t a u (tree_of c.args.above.now)) (sym all) low,
        λ r built. subst (λ ts. Rebuilt (texts ts) t (tree_of c.args.tree.now) r) all built,
      ),
    )

pub step_place-requires : goal.step_place-requires
step_place-requires c =
    let known = c.args.known in
    let tokens = c.args.tokens.now in
    let left = c.loop-left.left in
    let token = c.index-tokens-left.result in
    let text = chars (cow_str_bytes token) in
    let rest = texts (take (left - 1) tokens) in
    let t = c.requires.0 in
    let a = c.requires.1 in
    let above = tree_of c.loop-left.above in
    let l = c.loop-left.invariant.1 t a c.requires.2 c.requires.3 in
    let low = subst (λ ts. Lowered ts t a l.0 above)
    (texts-back tokens left token c.loop-left-test.true c.loop-left.invariant.0 c.index-tokens-left.is) l.1 in
    let p = Lowered-pop rest text t a l.0 above low in
    let step = knows-step known tokens (left - 1) token t p.0
    (omega (arith, c.loop-left-test.true, c.loop-left.invariant.0)) c.index-tokens-left.is c.requires.4
    (at_from-Lowered rest 1 t a p.0 p.1 p.2) in
    subst (λ b. KnowsStep known (left - 1) (tree_of c.swap.new.x) (chars b)) (sym c.as_str.ensures.value)
    (subst (λ x. KnowsStep known (left - 1) (tree_of x) text) (sym c.swap.ensures.x_after)
    (knows-above known (left - 1) p.0 above l.0 p.1 text p.3 p.4 step))

pub unwrap-place-requires : goal.unwrap-place-requires
unwrap-place-requires c =
    let tokens = c.args.tokens.now in
    let left = c.loop-left.left in
    let token = chars (cow_str_bytes c.index-tokens-left.result) in
    let rest = texts (take (left - 1) tokens) in
    let t = c.requires.0 in
    let a = c.requires.1 in
    let above = tree_of c.loop-left.above in
    let l = c.loop-left.invariant.1 t a c.requires.2 c.requires.3 in
    let low = subst (λ ts. Lowered ts t a l.0 above)
    (texts-back tokens left c.index-tokens-left.result c.loop-left-test.true c.loop-left.invariant.0 c.index-tokens-left.is) l.1 in
    let there = Lowered-there rest token t a l.0 above low in
    let place = place-there above there.0 token there.1 in
    subst IsOk
    (sym (c.step_place.ensures ∙ ap₂ (λ x bytes. step_place (tree_of x) (chars bytes)) c.swap.ensures.x_after
    c.as_str.ensures.value ∙ place.1))
    refl

pub exchange-requires : goal.exchange-requires
exchange-requires c = (chars c.as_str.result.now, sym c.step_place.ensures ∙ c.unwrap-place.ensures)

pub loop-left-preserved : goal.loop-left-preserved
loop-left-preserved c = (
  omega (arith, c.loop-left.invariant.0),
  λ t a u low.
      let token = chars (cow_str_bytes c.index-tokens-left.result) in
      let rest = take (c.loop-left.left - 1) c.args.tokens.now in
      let same = c.as_str.ensures.value in
      let split = texts-back c.args.tokens.now c.loop-left.left c.index-tokens-left.result c.loop-left-test.true
      c.loop-left.invariant.0 c.index-tokens-left.is in
      let l = c.loop-left.invariant.1 t a u low in
      let below = subst (λ ts. Lowered ts t a l.0 (tree_of c.loop-left.above)) split l.1 in
      let place = sym c.step_place.ensures ∙ c.unwrap-place.ensures in
      let found = c.exchange.ensures.taken (chars c.as_str.result.now) place in
      let put_there = c.exchange.ensures.put_there (chars c.as_str.result.now) place in
      let step = Rebuilt-step (texts rest) token t a l.0 (tree_of c.loop-left.above) (tree_of c.loop-left.tree)
      (tree_of c.exchange.new.other) (tree_of c.exchange.new.tree) below
      (sym (ap₂ (λ x bytes. child (tree_of x) (chars bytes)) c.swap.ensures.x_after same) ∙ found)
      (sym (ap₂ (λ x bytes. put (tree_of x) (chars bytes) (tree_of c.swap.new.y)) c.swap.ensures.x_after same
      ∙ ap (λ y. put (tree_of c.loop-left.above) token (tree_of y)) c.swap.ensures.y_after) ∙ put_there) in
      (step.0, step.1, λ r built. l.2 r (subst (λ ts. Rebuilt ts t (tree_of c.loop-left.tree) r) (sym split) (step.2 r built))),
)

pub returns : goal.returns
returns c = λ t a u low.
    let zero : c.loop-left.left ≡ 0 = omega (arith, c.loop-left-test.false) in
    let l = c.loop-left.invariant.1 t a u low in
    let none = subst (λ n. Lowered (texts (take n c.args.tokens.now)) t a l.0 (tree_of c.loop-left.above)) zero l.1 in (
      l.2 (tree_of c.loop-left.tree) (subst (λ n.
          Rebuilt (texts (take n c.args.tokens.now)) t (tree_of c.loop-left.tree) (tree_of c.loop-left.tree))
          (sym zero) refl),
      none.1,
    )
