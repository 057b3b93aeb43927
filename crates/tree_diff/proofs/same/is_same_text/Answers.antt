use Rattle.std.proofs.Common.{ap, ◌∙◌}
use Rattle.tree_diff.proofs.Prelude.{bytes_eq, bytes_eq-chars, text_bytes, IsUtf8-text_bytes}
use Rattle.tree_diff.proofs.same.is_same_text.Goals as goal

pub returns : goal.returns
returns c =
    let one = text_bytes c.args.one.now in
    let other = text_bytes c.args.other.now in
    c.eq.ensures ∙ ap (λ b. bytes_eq b c.as_str-2.result.now) c.as_str.ensures ∙ ap (bytes_eq other) c.as_str-2.ensures
    ∙ bytes_eq-chars one other (IsUtf8-text_bytes c.args.one.now) (IsUtf8-text_bytes c.args.other.now)
