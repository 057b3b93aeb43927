use Rattle.std.proofs.Common.{◌≡◌, ◌<◌, ◌≤◌, [], ◌∷◌, ◌++◌, ◌+◌, Ok, length, get_or, take, drop, ⊎_elim, sym, ap, ap₂, subst, ◌∙◌, arith}
use Rattle.tree_path.proofs.{Prelude.{cow_str_bytes, chars, take_all, texts, tree_of, text_bytes}, Descents.{at_from-turn, texts-split}}
use Rattle.tree_path.proofs.{Descents.texts-turn, IndexLemmas.{key-deeper, key-only, same_key, step-placed, steps-split, steps-take}}
use Rattle.tree_path.specs.{Steps.step_place, Tables.{Reaches, steps_of}}
use Rattle.tree_path.proofs.key_index.KeyIndex.reach.Goals as goal

pub returns-then-not-is_same : goal.returns-then-not-is_same
returns-then-not-is_same c =
    let l = c.loop-passed in
    let steps = c.args.self.now.steps.items in
    let tokens = c.args.tokens.now in
    let step = c.step-item.result in
    let token = c.index-tokens-passed.result in
    let items = c.deref-step-items.ensures.value in
    let t = tree_of c.args.tree.now in
    let within : l.passed < length steps = subst (λ xs. l.passed < length xs) items c.loop-passed-test.true in
    let step_is : step ≡ get_or steps l.passed step = c.step-item.is ∙ ap (λ xs. get_or xs l.passed step) items in
    let text = chars (text_bytes step) in
    let after = steps_of (drop (l.passed + 1) steps) in
    ⊎_elim
    (λ around. subst (λ r. Reaches r t (steps_of steps) (texts tokens)) (sym around) tt)
    (λ apart. subst (λ r. Reaches r t (steps_of steps) (texts tokens)) (sym apart.0) record {
      common = texts (take l.passed tokens);
      step = text;
      steps_after = after;
      token = chars (cow_str_bytes token);
      tokens_after = texts (drop (l.passed + 1) tokens);
      ms = apart.1.0;
      steps_are = steps-split steps l.passed step within step_is ∙ ap (λ xs. xs ++ text ∷ after) l.invariant.0;
      path_is = texts-split tokens l.passed token l.invariant.1 c.index-tokens-passed.is;
      other = sym c.is_same.ensures ∙ c.if-not-is_same.true;
      there = l.invariant.2 ∙ ap Ok apart.1.1;
    })
    c.reach_beside.ensures

pub step_place-requires : goal.step_place-requires
step_place-requires c =
    let l = c.loop-passed in
    let tokens = c.args.tokens.now in
    let node = tree_of l.node.now in
    let ps = c.args.places.now.parents.items in
    let within = l.invariant.1 in
    subst (λ b. (l.passed < length ps) × (step_place node (chars b) ≡ Ok (get_or ps l.passed 0))) (sym c.as_str.ensures.value)
    (step-placed c.args.places.now tokens l.passed c.index-tokens-passed.result (tree_of c.args.tree.now) node
    (omega (arith, within, c.if-passed-tokens.false))
    c.index-tokens-passed.is c.requires.places l.invariant.2)

pub loop-passed-preserved : goal.loop-passed-preserved
loop-passed-preserved c =
    let l = c.loop-passed in
    let steps = c.args.self.now.steps.items in
    let tokens = c.args.tokens.now in
    let step = c.step-item.result in
    let token = c.index-tokens-passed.result in
    let items = c.deref-step-items.ensures.value in
    let within : l.passed < length steps = subst (λ xs. l.passed < length xs) items c.loop-passed-test.true in
    let step_is : step ≡ get_or steps l.passed step = c.step-item.is ∙ ap (λ xs. get_or xs l.passed step) items in
    let token_within = l.invariant.1 in
    let same = same_key (chars (text_bytes step)) (chars (cow_str_bytes token)) (sym c.is_same.ensures ∙ c.if-not-is_same.false) in
    let node = tree_of l.node.now in
    let text = chars (cow_str_bytes token) in
    let place = ap (λ b. step_place node (chars b)) (sym c.as_str.ensures.value) ∙ sym c.step_place.ensures ∙ c.in-Ok.is in
    let found = c.child_in-node.ensures text place in (
      steps-take steps l.passed step within step_is ∙ ap₂ (λ xs x. xs ++ x ∷ []) l.invariant.0 same
          ∙ sym (texts-turn tokens l.passed token token_within c.index-tokens-passed.is),
      omega (arith, token_within, c.if-passed-tokens.false),
      at_from-turn tokens l.passed token (tree_of c.args.tree.now) node
          (tree_of c.child_in-node.result.now) token_within c.index-tokens-passed.is l.invariant.2 found,
    )

pub returns-then-tokens-len : goal.returns-then-tokens-len
returns-then-tokens-len c =
    let l = c.loop-passed in
    let steps = c.args.self.now.steps.items in
    let tokens = c.args.tokens.now in
    let items = c.deref-step-items.ensures.value in
    let past : length steps ≤ l.passed = subst (λ xs. length xs ≤ l.passed) items c.loop-passed-test.false in
    let upto : l.passed ≤ length steps = subst (λ xs. l.passed ≤ length xs) items c.loop-passed.auto.passed-end in
    let long = c.len.ensures ∙ c.args.self.now.steps.ok.0 in
    let whole = ap steps_of (sym (take_all l.passed steps past)) ∙ l.invariant.0 in
    key-only tokens (steps_of steps) l.passed l.invariant.1 whole (omega (arith, c.if-tokens-len.true, long, past, upto))

pub returns : goal.returns
returns c =
    let l = c.loop-passed in
    let steps = c.args.self.now.steps.items in
    let tokens = c.args.tokens.now in
    let items = c.deref-step-items.ensures.value in
    let past : length steps ≤ l.passed = subst (λ xs. length xs ≤ l.passed) items c.loop-passed-test.false in
    let upto : l.passed ≤ length steps = subst (λ xs. l.passed ≤ length xs) items c.loop-passed.auto.passed-end in
    let long = c.len.ensures ∙ c.args.self.now.steps.ok.0 in
    let whole = ap steps_of (sym (take_all l.passed steps past)) ∙ l.invariant.0 in
    key-deeper tokens (steps_of steps) l.passed l.invariant.1 whole (λ last. omega (arith, c.if-tokens-len.false, last, long, past, upto))
