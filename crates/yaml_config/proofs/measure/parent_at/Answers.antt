use Rattle.std.proofs.Common.{◌+◌, Err, take, sym, ap, subst, ◌∙◌}
use Rattle.yaml_config.proofs.Prelude.{cow_str_bytes, chars, tree_of, step_place, KnowsStep, texts, at_from-missed, texts-turn, knows-step}
use Rattle.yaml_config.{proofs.{Prelude.place-missed, Located.{Located-push, at_from-Located}}, specs.Changes.{Located, slot_in}}
use Rattle.yaml_config.specs.declared.change.Slot.TheVariants.{Value}
use Rattle.yaml_config.proofs.measure.parent_at.Goals as goal

pub step_place-requires : goal.step_place-requires
step_place-requires c =
    let l = c.loop-passed in
    let tokens = c.args.tokens.now in
    let t = tree_of c.args.tree.now in
    let node = tree_of l.node.now in
    subst (λ b. KnowsStep c.args.known l.passed node (chars b)) (sym c.as_str.ensures.value)
    (knows-step c.args.known tokens l.passed c.index-tokens-passed.result t node c.loop-passed-test.true c.index-tokens-passed.is c.requires
    (at_from-Located (texts (take l.passed tokens)) 1 Value l.slot t node l.invariant))

pub returns-in-Err-clause-refused : goal.returns-in-Err-clause-refused
returns-in-Err-clause-refused c =
    let l = c.loop-passed in
    let token = c.index-tokens-passed.result in
    let node = tree_of l.node.now in
    at_from-missed c.args.tokens.now l.passed token (tree_of c.args.tree.now) node c.in-Err.miss
    c.loop-passed-test.true c.index-tokens-passed.is
    (at_from-Located (texts (take l.passed c.args.tokens.now)) 1 Value l.slot (tree_of c.args.tree.now) node l.invariant)
    (place-missed node (chars (cow_str_bytes token)) c.in-Err.miss
    (ap (λ b. step_place node (chars b)) (sym c.as_str.ensures.value) ∙ sym c.in-Err.ensures))
    ∙ ap Err (sym c.at_step.ensures)

pub loop-passed-preserved : goal.loop-passed-preserved
loop-passed-preserved c =
    let l = c.loop-passed in
    let t = tree_of c.args.tree.now in
    let node = tree_of l.node.now in
    let token = c.index-tokens-passed.result in
    let text = chars (cow_str_bytes token) in
    let below = tree_of c.child_in-node.result.now in
    let place = ap (λ b. step_place node (chars b)) (sym c.as_str.ensures.value) ∙ sym c.in-Ok.ensures in
    subst (λ s. Located (texts (take (l.passed + 1) c.args.tokens.now)) Value t s below) (sym c.in_collection-slot.ensures)
    (subst (λ ts. Located ts Value t (slot_in node) below)
    (sym (texts-turn c.args.tokens.now l.passed token c.loop-passed-test.true c.index-tokens-passed.is))
    (Located-push (texts (take l.passed c.args.tokens.now)) text Value l.slot t node below l.invariant
    (c.child_in-node.ensures text place)))
