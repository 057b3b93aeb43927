use Rattle.std.proofs.Common.{◌++◌, sym, ap, ◌∙◌, append_assoc, string_bytes}
use Rattle.tree_diff.proofs.Prelude.{append-nil, map-id, chars, char_text, token_text, YieldsList-from_chars, YieldsList-end}
use Rattle.tree_diff.proofs.Pointers.{token_text-push}
use Rattle.tree_diff.proofs.pointer.push_token.Goals as goal

pub loop-c-init : goal.loop-c-init
loop-c-init c = sym (append-nil _)

pub loop-c-preserved : goal.loop-c-preserved
loop-c-preserved c =
    let old = chars (string_bytes c.args.pointer.now) in
    c.in_ok-push_char.ensures ∙ ap (λ cs. cs ++ char_text c.in-Some.c) c.loop-c.invariant
    ∙ append_assoc old (token_text c.loop-c.yielded) (char_text c.in-Some.c)
    ∙ ap (λ cs. old ++ cs) (sym (token_text-push c.loop-c.yielded c.in-Some.c))

pub returns : goal.returns
returns c =
    let end = YieldsList-end (YieldsList-from_chars c.args.token.now c.utf8.token cc) c.loop-c.yielded _
    c.loop-c.yielded_by _ _ c.in-None.is c.next.ensures.steps in
    c.loop-c.invariant
    ∙ ap (λ cs. chars (string_bytes c.args.pointer.now) ++ token_text cs) (sym (map-id c.loop-c.yielded) ∙ end.0)
