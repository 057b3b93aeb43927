use Rattle.std.proofs.Common.{◌<◌, ◌^◌, ◌++◌, sym, ap, ◌∙◌, string_bytes, arith}
use Rattle.tree_diff.proofs.{Prelude.{chars, chars-IsAscii, token_text, on_ok_weaker}, Indices.index_token-decimal}
use Rattle.tree_diff.proofs.pointer.push_index.Goals as goal

pub returns : goal.returns
returns c =
    let small : c.args.index < 2 ^ 64 = omega arith in
    let digits = chars-IsAscii c.format.result.now c.format.ensures.ascii ∙ c.format.ensures.text
    ∙ sym (index_token-decimal c.args.index small) in
    on_ok_weaker c.push_token.result
    (λ is. is ∙ ap (λ cs. chars (string_bytes c.args.pointer.now) ++ token_text cs) digits)
    c.push_token.ensures
