use Rattle.std.proofs.Common.{◌≡◌, ◌==◌, ◌&&◌, true, false, ◌++◌, ◌∷◌, [], refl, sym, ap, subst, string_bytes, arith}
use Rattle.tree_diff.proofs.Prelude.{append-nil, IsUtf8-string_bytes, chars, char_text, nat_tests, OnOk}
use lib.Utf8.{encode}
use Rattle.tree_diff.proofs.Pointers.{grown_on_ok}
use Rattle.tree_diff.proofs.pointer.push_char.Goals as goal

pub returns-in-126 : goal.returns-in-126
unfolding encode
returns-in-126 c =
    let old = string_bytes c.args.pointer.now in
    let new = string_bytes c.push_str.new.self in
    let spelled : char_text c.args.c ≡ 126 ∷ 48 ∷ [] = ap char_text c.in-126.is in
    subst (λ cs. OnOk c.push_str.result (chars new ≡ chars old ++ cs)) (sym spelled)
    (grown_on_ok c.push_str.result old new (126 ∷ 48 ∷ []) (126 ∷ 48 ∷ []) c.push_str.ensures.bytes (IsUtf8-string_bytes c.args.pointer.now)
    refl refl)

pub returns-in-47 : goal.returns-in-47
unfolding encode
returns-in-47 c =
    let old = string_bytes c.args.pointer.now in
    let new = string_bytes c.push_str-in-47.new.self in
    let spelled : char_text c.args.c ≡ 126 ∷ 49 ∷ [] = ap char_text c.in-47.is in
    subst (λ cs. OnOk c.push_str-in-47.result (chars new ≡ chars old ++ cs)) (sym spelled)
    (grown_on_ok c.push_str-in-47.result old new (126 ∷ 49 ∷ []) (126 ∷ 49 ∷ []) c.push_str-in-47.ensures.bytes
    (IsUtf8-string_bytes c.args.pointer.now) refl refl)

pub returns-in_default : goal.returns-in_default
returns-in_default c =
    let old = string_bytes c.args.pointer.now in
    let new = string_bytes c.push.new.self in
    let no_tilde : (c.args.c == 126) ≡ false = grind (arith, nat_tests) in
    let no_slash : (c.args.c == 47) ≡ false = grind (arith, nat_tests) in
    let itself : char_text c.args.c ≡ c.args.c ∷ [] = rw (no_tilde, no_slash) refl in
    subst (λ cs. OnOk c.push.result (chars new ≡ chars old ++ cs)) (sym itself)
    (grown_on_ok c.push.result old new _ (c.args.c ∷ []) c.push.ensures.bytes (IsUtf8-string_bytes c.args.pointer.now)
    (sym (append-nil _)) (ap (λ b. b && true) c.ranges.c.0))
