use Rattle.std.proofs.Common.{ap, ◌∙◌}
use Rattle.tree_hidden.proofs.Prelude.{IsUtf8-text_bytes, bytes_eq, bytes_eq-chars, text_bytes}
use Rattle.tree_hidden.proofs.paths.is_same.Goals as goal

pub returns : goal.returns
returns c =
    let token = c.args.token.now in
    let other = text_bytes c.args.other.now in
    c.eq.ensures ∙ ap (λ bytes. bytes_eq bytes token) c.as_str.ensures
    ∙ bytes_eq-chars token other c.utf8.token (IsUtf8-text_bytes c.args.other.now)
