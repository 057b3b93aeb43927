use Rattle.std.proofs.Common.{◌∙◌, sym}
use Rattle.json_pointer.proofs.{Prelude.chars_rest, Escapes.{itself-passed, escape-read-on, stray-found, end-passed}}
use Rattle.json_pointer.proofs.pointer.has_whole_escapes.Goals as goal

pub loop-c-preserved-then-c-ne126 : goal.loop-c-preserved-then-c-ne126
loop-c-preserved-then-c-ne126 c =
    let i = c.loop-c.invariant in
    let n = itself-passed (chars_rest c.loop-c.rest)
    (chars_rest c.next.new.self) c.in-Some.c i.1 c.in-Some.ensures.steps.0 c.if-c-ne126.true in
    (i.0 ∙ n.0, n.1)

pub loop-c-preserved : goal.loop-c-preserved
loop-c-preserved c =
    let i = c.loop-c.invariant in
    let n = escape-read-on (chars_rest c.loop-c.rest) (chars_rest c.next.new.self)
    (chars_rest c.next-in-Some.new.self) c.in-Some.c c.in-Some-escaped.field-0 c.next-in-Some.result _ i.1
    c.in-Some.ensures.steps.0 c.if-c-ne126.false c.next-in-Some.ensures.steps.0 c.in-Some-escaped.ensures in
    (i.0 ∙ n.0, n.1)

pub returns-in_default-escaped : goal.returns-in_default-escaped
returns-in_default-escaped c =
    let i = c.loop-c.invariant in
    stray-found (chars_rest c.loop-c.rest) (chars_rest c.next.new.self)
    (chars_rest c.next-in-Some.new.self) c.in-Some.c c.next-in-Some.result _ i.1 c.in-Some.ensures.steps.0 c.if-c-ne126.false
    c.next-in-Some.ensures.steps.0 c.in_default-escaped.ensures
    ∙ sym i.0

pub returns : goal.returns
returns c = end-passed (chars_rest c.loop-c.rest) c.in_default.ensures.steps.0.0 ∙ sym c.loop-c.invariant.0
