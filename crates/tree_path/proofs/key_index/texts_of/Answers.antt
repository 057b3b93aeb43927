use Rattle.std.proofs.Common.{[], ◌∷◌, ◌++◌, sym, ap, ap₂, ◌∙◌}
use Rattle.tree_path.{proofs.{Prelude.chars, Descents.texts-turn, IndexLemmas.steps-append}, specs.Tables.steps_of}
use Rattle.tree_path.proofs.key_index.texts_of.Goals as goal

pub loop-place-preserved : goal.loop-place-preserved
loop-place-preserved c =
    let token = c.index-tokens-place.result in
    ap steps_of c.in_ok-push.ensures.items ∙ steps-append c.loop-place.steps.items c.in_ok-new.field-0
    ∙ ap₂ (λ xs x. xs ++ chars x ∷ []) c.loop-place.invariant (c.in_ok-new.ensures ∙ c.as_str.ensures.value)
    ∙ sym (texts-turn c.args.tokens.now c.loop-place.place token c.loop-place-test.true c.index-tokens-place.is)
