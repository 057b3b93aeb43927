use Rattle.std.proofs.Common.{◌++◌, ◌∷◌, [], refl, sym, ap, ◌∙◌, string_bytes}
use Rattle.tree_diff.proofs.Prelude.{chars, chars-encodes, token_text, slash, on_ok_weaker, IsUtf8-string_bytes}
use lib.Utf8.{encode}
use Rattle.tree_diff.{specs.{Differences.index_token, Walks.token_of}, proofs.Pointers.stepped}
use Rattle.tree_diff.proofs.pointer.push_step.Goals as goal

pub returns-in-Key : goal.returns-in-Key
returns-in-Key c =
    let old = string_bytes c.args.pointer.now in
    on_ok_weaker c.push_token.result
    (λ is. stepped old (string_bytes c.push.new.self) (string_bytes c.push_token.new.pointer) (chars c.in-Key.key.now)
    c.in_ok-push.ensures.bytes (IsUtf8-string_bytes c.args.pointer.now) is
    ∙ ap (λ s. chars old ++ slash ∷ token_text (token_of s)) (sym c.in-Key.is))
    c.push_token.ensures

pub returns-in-Index : goal.returns-in-Index
returns-in-Index c =
    let old = string_bytes c.args.pointer.now in
    on_ok_weaker c.push_index.result
    (λ is. stepped old (string_bytes c.push.new.self) (string_bytes c.push_index.new.pointer) (index_token c.in-Index.index)
    c.in_ok-push.ensures.bytes (IsUtf8-string_bytes c.args.pointer.now) is
    ∙ ap (λ s. chars old ++ slash ∷ token_text (token_of s)) (sym c.in-Index.is))
    c.push_index.ensures

pub returns-in-End : goal.returns-in-End
unfolding encode
returns-in-End c =
    let old = string_bytes c.args.pointer.now in
    on_ok_weaker c.push_token-in-End.result
    (λ is. stepped old (string_bytes c.push.new.self) (string_bytes c.push_token-in-End.new.pointer) (45 ∷ [])
    c.in_ok-push.ensures.bytes (IsUtf8-string_bytes c.args.pointer.now)
    (is ∙ ap (λ cs. chars (string_bytes c.push.new.self) ++ token_text cs) (chars-encodes (45 ∷ []) refl))
    ∙ ap (λ s. chars old ++ slash ∷ token_text (token_of s)) (sym c.in-End.is))
    c.push_token-in-End.ensures
