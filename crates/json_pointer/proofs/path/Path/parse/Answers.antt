use Rattle.std.proofs.Common.{◌≡◌, ◌-◌, ◌<◌, ◌∷◌, ◌++◌, length, Global, inr, refl, sym, ap, ◌∙◌, arith, rules}
use Rattle.json_pointer.proofs.Prelude.{cow_str_bytes, Borrowed, CowStr, chars, chars_rest, byte_len, nat_tests}
use lib.Utf8.{encode}
use Rattle.std.proofs.lemmas.List.{length-map}
use Rattle.json_pointer.specs.{Pointers.pointer_text, Pointers.path_of, Tokens.texts, declared.fault.PathFault.TheVariants.BadPath}
use Rattle.json_pointer.proofs.Pointers.{token-read, itself-read, tilde-read, escape-read, escape-stray, tilde-place, end-read, prefix-read}
use Rattle.json_pointer.proofs.Pointers.{path_of-stray, path_of-pointer_text, no_path}
use Rattle.json_pointer.proofs.path.Path.parse.Goals as goal

pub loop-c-preserved-then-c-eq47 : goal.loop-c-preserved-then-c-eq47
loop-c-preserved-then-c-eq47 c =
    let after = c.as_str-after.ensures in
    token-read c.args.text.now (chars_rest c.loop-c.rest) c.as_str-after.result.now
    (chars_rest c.chars-rest-then-c-eq47.result) c.loop-c.tokens.items
    c.push.new.self.items (Borrowed c.range.result) c.in-Some.c c.unescaped_end-end.result c.loop-c.invariant
    (c.in-Some.ensures.steps.0 ∙ ap (λ bs. encode c.in-Some.c ++ bs) (sym after)) c.if-c-eq47.true
    c.unescaped_end-end.ensures c.in_ok-push.ensures.items
    c.range.ensures.value (c.chars-rest-then-c-eq47.ensures.rest ∙ c.range_from.ensures.value)

pub returns-then-is_empty-clause-refused : goal.returns-then-is_empty-clause-refused
returns-then-is_empty-clause-refused c = λ _ tokens is.
    let empty : length c.loop-c.tokens.items ≡ 0 = search (rules, nat_tests) in
    no_path (chars c.args.text.now) (BadPath 0) tokens
    (prefix-read c.args.text.now (chars_rest c.loop-c.rest)
    (chars_rest c.next.new.self) c.loop-c.tokens.items c.in-Some.c c.loop-c.invariant c.in-Some.ensures.steps.0
    empty c.if-c-eq47.false)
    is

pub returns-then-is_empty-clause-met : goal.returns-then-is_empty-clause-met
returns-then-is_empty-clause-met c =
    let empty : length c.loop-c.tokens.items ≡ 0 = search (rules, nat_tests) in
    inr (sym (prefix-read c.args.text.now (chars_rest c.loop-c.rest)
    (chars_rest c.next.new.self) c.loop-c.tokens.items c.in-Some.c c.loop-c.invariant c.in-Some.ensures.steps.0
    empty c.if-c-eq47.false))

pub loop-c-preserved-then-c-ne126 : goal.loop-c-preserved-then-c-ne126
loop-c-preserved-then-c-ne126 c =
    itself-read c.args.text.now (chars_rest c.loop-c.rest) (chars_rest c.next.new.self) (pointer_text (texts c.loop-c.tokens.items))
    (pointer_text (texts c.lengthen.new.tokens.items)) c.in-Some.c c.loop-c.invariant c.in-Some.ensures.steps.0
    c.if-c-eq47.false c.if-c-ne126.true
    c.in_ok-lengthen.ensures.ok

pub overflow_sub-at : goal.overflow_sub-at
overflow_sub-at c =
    let n = tilde-place c.args.text.now (chars_rest c.loop-c.rest) (chars_rest c.next.new.self)
    (pointer_text (texts c.loop-c.tokens.items)) c.in-Some.c c.utf8.text
    c.loop-c.invariant c.in-Some.ensures.steps.0 c.if-c-ne126.false in
    omega (arith, n, ap length c.as_str.ensures)

pub overflow_sub-at-in-Some : goal.overflow_sub-at-in-Some
overflow_sub-at-in-Some c =
    let n = tilde-place c.args.text.now (chars_rest c.loop-c.rest) (chars_rest c.next.new.self)
    (pointer_text (texts c.loop-c.tokens.items)) c.in-Some.c c.utf8.text
    c.loop-c.invariant c.in-Some.ensures.steps.0 c.if-c-ne126.false in
    omega (arith, n, ap length c.as_str.ensures)

pub loop-c-preserved : goal.loop-c-preserved
loop-c-preserved c =
    let n = tilde-read c.args.text.now (chars_rest c.loop-c.rest) (chars_rest c.next.new.self)
    (pointer_text (texts c.loop-c.tokens.items)) c.in-Some.c
    c.loop-c.invariant c.in-Some.ensures.steps.0 c.if-c-ne126.false in
    escape-read c.args.text.now (chars_rest c.next.new.self) (chars_rest c.next-in-Some.new.self)
    (pointer_text (texts c.loop-c.tokens.items))
    (pointer_text (texts c.lengthen-in-Some-escaped.new.tokens.items)) c.next-in-Some.result c.in-Some-escaped.c _ n.0
    n.1 c.next-in-Some.ensures.steps.0
    c.in-Some-escaped.ensures c.in_ok-lengthen-in-Some-escaped.ensures.ok

pub returns-in-None-clause-met : goal.returns-in-None-clause-met
returns-in-None-clause-met c =
    let before = pointer_text (texts c.loop-c.tokens.items) in
    let new = chars_rest c.next.new.self in
    let n = tilde-read c.args.text.now (chars_rest c.loop-c.rest) new before c.in-Some.c c.loop-c.invariant
    c.in-Some.ensures.steps.0 c.if-c-ne126.false in
    let m = tilde-place c.args.text.now (chars_rest c.loop-c.rest) new before c.in-Some.c c.utf8.text
    c.loop-c.invariant c.in-Some.ensures.steps.0 c.if-c-ne126.false in
    let some : 0 < length c.loop-c.tokens.items = search (rules, nat_tests) in
    inr (sym (path_of-stray (chars c.args.text.now) (126 ∷ chars new) (texts c.loop-c.tokens.items)
    (length c.args.text.now - length c.as_str.result.now - 1) n.0
    (omega (arith, some, length-map c.loop-c.tokens.items (λ (x : CowStr Global). chars (cow_str_bytes x))))
    (escape-stray new (chars_rest c.next-in-Some.new.self) c.next-in-Some.result _ n.1 c.next-in-Some.ensures.steps.0 c.in-None.ensures)
    (omega (arith, m, ap length c.as_str.ensures))))

pub returns-in-None-clause-refused : goal.returns-in-None-clause-refused
returns-in-None-clause-refused c = λ _ tokens is.
    let before = pointer_text (texts c.loop-c.tokens.items) in
    let new = chars_rest c.next.new.self in
    let n = tilde-read c.args.text.now (chars_rest c.loop-c.rest) new before c.in-Some.c c.loop-c.invariant
    c.in-Some.ensures.steps.0 c.if-c-ne126.false in
    let m = tilde-place c.args.text.now (chars_rest c.loop-c.rest) new before c.in-Some.c c.utf8.text
    c.loop-c.invariant c.in-Some.ensures.steps.0 c.if-c-ne126.false in
    let some : 0 < length c.loop-c.tokens.items = search (rules, nat_tests) in
    no_path (chars c.args.text.now) (BadPath (byte_len before)) tokens
    (path_of-stray (chars c.args.text.now) (126 ∷ chars new) (texts c.loop-c.tokens.items) (byte_len before) n.0
    (omega (arith, some, length-map c.loop-c.tokens.items (λ (x : CowStr Global). chars (cow_str_bytes x))))
    (escape-stray new (chars_rest c.next-in-Some.new.self) c.next-in-Some.result _ n.1 c.next-in-Some.ensures.steps.0
    c.in-None.ensures) refl) is

pub returns-clause-met : goal.returns-clause-met
returns-clause-met c =
    let is = end-read c.args.text.now (chars_rest c.loop-c.rest)
    (pointer_text (texts c.loop-c.tokens.items)) c.loop-c.invariant c.in_default.ensures.steps.0.0 in
    inr (sym (ap path_of is ∙ path_of-pointer_text (texts c.loop-c.tokens.items)))

pub returns-clause-ok : goal.returns-clause-ok
returns-clause-ok c =
    end-read c.args.text.now (chars_rest c.loop-c.rest)
    (pointer_text (texts c.loop-c.tokens.items)) c.loop-c.invariant c.in_default.ensures.steps.0.0
