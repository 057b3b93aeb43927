use Rattle.std.proofs.Common.{[], ◌∷◌, ◌++◌, ◌<◌, length, sym, ap₂, ◌∙◌, arith}
use Rattle.tree_path.proofs.{Prelude.{cow_str_bytes, chars, text_bytes}, Descents.texts-turn, IndexLemmas.{same_key, steps-take}}
use Rattle.tree_path.proofs.key_index.are_steps.Goals as goal

pub loop-place-preserved : goal.loop-place-preserved
loop-place-preserved c =
    let steps = c.args.steps.now in
    let tokens = c.args.tokens.now in
    let place = c.loop-place.place in
    let step = c.index-steps-place.result in
    let token = c.index-tokens-place.result in
    let within : place < length tokens = omega (arith, c.if-steps-tokens.false, c.loop-place-test.true) in
    let same = same_key (chars (text_bytes step)) (chars (cow_str_bytes token)) (sym c.is_same.ensures ∙ c.if-not-is_same.false) in
    steps-take steps place step c.loop-place-test.true c.index-steps-place.is
    ∙ ap₂ (λ xs x. xs ++ x ∷ []) c.loop-place.invariant same
    ∙ sym (texts-turn tokens place token within c.index-tokens-place.is)
