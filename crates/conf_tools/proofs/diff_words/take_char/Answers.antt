-- What one more character makes of the name.
use Rattle.std.proofs.Common.{◌≡◌, ◌==◌, ◌&&◌, true, false, ◌++◌, ◌∷◌, [], sym, ap, subst, ◌∙◌, string_bytes, arith}
use Rattle.std.proofs.lemmas.{Bool.Decides.nat_tests, List.append-nil, Str.{IsUtf8-string_bytes, chars-append, chars-encodes, chars-nil}}
use lib.Utf8.{encode}
use Rattle.conf_tools.{proofs.{NameLemmas.{name-slash, taken-dot, taken-more, taken-past}, Prelude.chars}, specs.DiffWords.IsNameOf}
use Rattle.conf_tools.proofs.diff_words.take_char.Goals as goal

pub returns-then-c-eq47 : goal.returns-then-c-eq47
returns-then-c-eq47 c = λ cs so_far.
    let is : (c.args.c == 47) ≡ true = grind (arith, nat_tests) in
    subst (λ name. IsNameOf (cs ++ c.args.c ∷ []) name true) (sym (ap chars c.clear.ensures.bytes ∙ chars-nil)) (name-slash cs c.args.c is)

pub returns-then-c-eq46 : goal.returns-then-c-eq46
returns-then-c-eq46 c = λ cs so_far.
    let other : (c.args.c == 47) ≡ false = grind (arith, nat_tests) in
    let is : (c.args.c == 46) ≡ true = grind (arith, nat_tests) in
    taken-dot cs c.args.c (chars (string_bytes c.args.name.now)) c.args.is_before_dot so_far other is

pub returns-then-is_before_dot : goal.returns-then-is_before_dot
returns-then-is_before_dot c = λ cs so_far.
    let old = string_bytes c.args.name.now in
    let new = string_bytes c.push.new.self in
    let other : (c.args.c == 47) ≡ false = grind (arith, nat_tests) in
    let no_dot : (c.args.c == 46) ≡ false = grind (arith, nat_tests) in
    let grown : chars new ≡ chars old ++ c.args.c ∷ [] = ap chars c.in_ok-push.ensures.bytes
    ∙ chars-append old (encode c.args.c) (IsUtf8-string_bytes c.args.name.now)
    ∙ ap (λ xs. chars old ++ xs) (ap chars (sym (append-nil (encode c.args.c)))
    ∙ chars-encodes (c.args.c ∷ []) (ap (λ b. b && true) c.ranges.c.0)) in
    taken-more cs c.args.c (chars old) c.args.is_before_dot so_far (chars new) grown c.if-is_before_dot.true other no_dot

pub returns : goal.returns
returns c = λ cs so_far.
    let other : (c.args.c == 47) ≡ false = grind (arith, nat_tests) in
    let no_dot : (c.args.c == 46) ≡ false = grind (arith, nat_tests) in
    taken-past cs c.args.c (chars (string_bytes c.args.name.now)) c.args.is_before_dot so_far c.if-is_before_dot.false other no_dot
