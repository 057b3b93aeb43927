use Rattle.std.proofs.Common.{◌≡◌, [], ◌∷◌, ◌++◌, option_to_list, string_bytes, ap, subst, sym, ◌∙◌}
use Rattle.json_pointer.proofs.Prelude.{cow_str_bytes, IsUtf8, Owned, IsUtf8-string_bytes}
use lib.Utf8.{encode}
use Rattle.json_pointer.{specs.{Pointers.{pointer_text, char_text}, Tokens.texts}, proofs.Pointers.pointer_text-lengthened}
use Rattle.json_pointer.proofs.path.lengthen.Goals as goal

pub returns-clause-ok : goal.returns-clause-ok
returns-clause-ok c =
    let before = c.pop.new.self.items in
    let last = c.unwrap.result in
    let longer = Owned c.push.new.self in
    let owned : string_bytes c.in_ok-last.last ≡ cow_str_bytes last = c.in_ok-last.ensures.ok in
    let utf8 : IsUtf8 (cow_str_bytes last) = subst IsUtf8 owned (IsUtf8-string_bytes c.in_ok-last.last) in
    let split : c.args.tokens.now.items ≡ before ++ last ∷ [] = c.pop.ensures.items
    ∙ ap (λ o. before ++ option_to_list o) c.unwrap.ensures in
    ap (λ xs. pointer_text (texts xs)) c.in_ok-push-2.ensures.items
    ∙ pointer_text-lengthened before last longer c.args.c utf8 c.ranges.c.0
    (c.in_ok-push.ensures.bytes ∙ ap (λ bs. bs ++ encode c.args.c) owned)
    ∙ ap (λ xs. pointer_text (texts xs) ++ char_text c.args.c) (sym split)
