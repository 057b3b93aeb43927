use Rattle.std.proofs.Common.{ap, subst, ◌∙◌}
use Rattle.tree_path.proofs.{Prelude.{cow_str_bytes, IsUtf8, bytes_eq, text_bytes, IsUtf8-text_bytes}, Places.bytes_eq-chars}
use Rattle.tree_path.proofs.key_index.is_same.Goals as goal

pub returns : goal.returns
returns c =
    let step = text_bytes c.args.step.now in
    let token = cow_str_bytes c.args.token.now in
    c.eq.ensures ∙ ap (λ b. bytes_eq b c.as_str-2.result.now) c.as_str.ensures.value ∙ ap (bytes_eq token) c.as_str-2.ensures
    ∙ bytes_eq-chars step token (IsUtf8-text_bytes c.args.step.now) (subst IsUtf8 c.as_str.ensures.value c.as_str.utf8)
