-- One more character, and the end of the text.
use Rattle.std.proofs.Common.{[], ◌∷◌, ◌++◌, length, drop, sym, ap, ◌∙◌, arith, append-nil, string_bytes, encode_utf8_all}
use Rattle.std.proofs.lemmas.{Iterator.{YieldsList-from_chars, Consumers.{YieldsList-turn, YieldsList-end}}, List.at_drop_all}
use Rattle.std.{proofs.lemmas.List.length_push, specs.Str.chars}
use Rattle.conf_words.{specs.Escapes.{escaped, escaped_char}, proofs.EscapeLemmas.{appended, first_escaped}}
use Rattle.conf_words.proofs.escapes.escaped.Goals as goal

pub loop-c-preserved : goal.loop-c-preserved
loop-c-preserved c =
    let turn = YieldsList-turn (YieldsList-from_chars c.args.text.now c.utf8.text cc) c.loop-c.yielded _
    c.loop-c.yielded_by _ _ c.in-Some.c c.in-Some.is c.next.ensures.steps in
    let text = chars c.args.text.now in
    let before = length c.loop-c.yielded in
    let after = length (c.loop-c.yielded ++ c.in-Some.c ∷ []) in
    appended (string_bytes c.loop-c.shown) (string_bytes c.push_escaped.new.shown) (encode_utf8_all (escaped_char c.in-Some.c))
    (encode_utf8_all (escaped (drop after text))) (encode_utf8_all (escaped (drop before text))) (encode_utf8_all (escaped text))
    (first_escaped text before after c.in-Some.c turn (length_push c.loop-c.yielded c.in-Some.c))
    c.in_ok-push_escaped.ensures c.loop-c.invariant

pub returns : goal.returns
returns c =
    let end = YieldsList-end (YieldsList-from_chars c.args.text.now c.utf8.text cc) c.loop-c.yielded _
    c.loop-c.yielded_by _ _ c.in-None.is c.next.ensures.steps in
    let shown = string_bytes c.loop-c.shown in
    sym (append-nil shown)
    ∙ ap (λ bytes. shown ++ bytes) (sym (at_drop_all (λ cs. encode_utf8_all (escaped cs)) (chars c.args.text.now)
    (length c.loop-c.yielded) (omega (arith, end.1))))
    ∙ c.loop-c.invariant
