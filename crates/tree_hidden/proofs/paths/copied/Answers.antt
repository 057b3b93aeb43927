use Rattle.std.proofs.Common.{◌+◌, ◌++◌, drop, ap, sym, ◌∙◌, arith}
use Rattle.tree_hidden.{proofs.{Prelude.{drop_item, texts}, PathLemmas.copied-one}, specs.Tokens.tokens_of}
use Rattle.tree_hidden.proofs.paths.copied.Goals as goal

pub loop-token-preserved : goal.loop-token-preserved
loop-token-preserved c =
    let l = c.loop-token in
    let tokens = c.args.tokens.now in
    let copies = l.copies.items in
    let others = drop (l.token-index + 1) tokens in
    let here = drop_item tokens l.token-index c.token-item.result (omega arith) c.token-item.is in
    ap (λ items. tokens_of items ++ texts others) c.in_ok-push.ensures.items
    ∙ copied-one copies c.in_ok-new.field-0 c.token-item.result others (c.in_ok-new.ensures ∙ c.as_str.ensures.value)
    ∙ sym (ap (λ ts. tokens_of copies ++ texts ts) here)
    ∙ l.invariant
