use Rattle.std.proofs.Common.{◌≡◌, ap, sym, subst, arith, ℕ, ◌+◌, get_or}
use Rattle.yaml_flow_scalars.{specs.DoubleScan.EscapeAt, proofs.DoublePlaces.{after_byte, escape_cut, escape_there, no_escape, no_number}}
use Rattle.yaml_flow_scalars.proofs.DoublePlaces.{no_char, number_there, counted_none, counted_some, counted_is_ascii}
use Rattle.yaml_flow_scalars.proofs.double_quoted.escape_at.Goals as goal

pub returns-then-sign-bytes-clause-none : goal.returns-then-sign-bytes-clause-none
returns-then-sign-bytes-clause-none c =
    let r = c.requires in
    escape_cut c.args.text.now c.args.at c.utf8.text r.within r.backslash (omega (arith, c.as_bytes-bytes.ensures.len))

-- a sign without digits

pub returns-in_default-clause-none : goal.returns-in_default-clause-none
returns-in_default-clause-none c =
    let r = c.requires in
    let sign : ℕ = get_or c.as_bytes-bytes.result.now (c.args.at + 1) 0 in
    let same : get_or c.args.text.now (c.args.at + 1) 0 ≡ sign =
    ap (λ t. get_or t (c.args.at + 1) 0) (sym c.as_bytes-bytes.ensures.value) in
    let none = counted_none sign c.digits_after-digits.result c.digits_after-digits.ensures c.if-digits-eq0.true in
    (no_escape c.args.text.now c.args.at c.utf8.text r.within r.backslash
    (omega (arith, c.as_bytes-bytes.ensures.len)) sign same none c.in_default.ensures.none)

pub returns-then-digits-eq0-clause-found : goal.returns-then-digits-eq0-clause-found
returns-then-digits-eq0-clause-found c =
    let r = c.requires in
    let sign : ℕ = get_or c.as_bytes-bytes.result.now (c.args.at + 1) 0 in
    let same : get_or c.args.text.now (c.args.at + 1) 0 ≡ sign =
    ap (λ t. get_or t (c.args.at + 1) 0) (sym c.as_bytes-bytes.ensures.value) in
    let none = counted_none sign c.digits_after-digits.result c.digits_after-digits.ensures c.if-digits-eq0.true in
    escape_there c.args.text.now c.args.at c.utf8.text r.within r.backslash
    (omega (arith, c.as_bytes-bytes.ensures.len)) sign same none c.in-Some.meant c.in-Some.ensures.found

-- a sign with digits

pub hex_number-requires-clause-at : goal.hex_number-requires-clause-at
hex_number-requires-clause-at c =
    let sign : ℕ = get_or c.as_bytes-bytes.result.now (c.args.at + 1) 0 in
    let same : get_or c.args.text.now (c.args.at + 1) 0 ≡ sign =
    ap (λ t. get_or t (c.args.at + 1) 0) (sym c.as_bytes-bytes.ensures.value) in
    let some = counted_some sign c.digits_after-digits.result c.digits_after-digits.ensures c.if-digits-eq0.false in
    after_byte c.args.text.now (c.args.at + 1) sign c.utf8.text (omega (arith, c.as_bytes-bytes.ensures.len)) same
    (counted_is_ascii sign some.0)

pub returns-in_default-hex_number-clause-none : goal.returns-in_default-hex_number-clause-none
returns-in_default-hex_number-clause-none c =
    let r = c.requires in
    let sign : ℕ = get_or c.as_bytes-bytes.result.now (c.args.at + 1) 0 in
    let same : get_or c.args.text.now (c.args.at + 1) 0 ≡ sign =
    ap (λ t. get_or t (c.args.at + 1) 0) (sym c.as_bytes-bytes.ensures.value) in
    let some = counted_some sign c.digits_after-digits.result c.digits_after-digits.ensures c.if-digits-eq0.false in
    (no_number c.args.text.now c.args.at c.utf8.text r.within r.backslash
    (omega (arith, c.as_bytes-bytes.ensures.len)) sign same some.0 c.digits_after-digits.result some.1
    c.in_default-hex_number.ensures.none)

pub returns-in_default-from_u32-clause-none : goal.returns-in_default-from_u32-clause-none
returns-in_default-from_u32-clause-none c =
    let r = c.requires in
    let sign : ℕ = get_or c.as_bytes-bytes.result.now (c.args.at + 1) 0 in
    let same : get_or c.args.text.now (c.args.at + 1) 0 ≡ sign =
    ap (λ t. get_or t (c.args.at + 1) 0) (sym c.as_bytes-bytes.ensures.value) in
    let some = counted_some sign c.digits_after-digits.result c.digits_after-digits.ensures c.if-digits-eq0.false in
    (no_char c.args.text.now c.args.at c.utf8.text r.within r.backslash
    (omega (arith, c.as_bytes-bytes.ensures.len)) sign same some.0 c.digits_after-digits.result some.1
    c.in-Some-hex_number.number c.in-Some-hex_number.ensures.found c.in_default-from_u32.ensures.cases)

pub returns-clause-found : goal.returns-clause-found
returns-clause-found c =
    let r = c.requires in
    let sign : ℕ = get_or c.as_bytes-bytes.result.now (c.args.at + 1) 0 in
    let same : get_or c.args.text.now (c.args.at + 1) 0 ≡ sign =
    ap (λ t. get_or t (c.args.at + 1) 0) (sym c.as_bytes-bytes.ensures.value) in
    let some = counted_some sign c.digits_after-digits.result c.digits_after-digits.ensures c.if-digits-eq0.false in
    let scalar = c.in-Some-from_u32.ensures.value in
    subst (λ m. EscapeAt c.args.text.now c.args.at m (c.args.at + 1 + 1 + c.digits_after-digits.result)) (sym scalar.1)
    (number_there c.args.text.now c.args.at c.utf8.text r.within r.backslash
    (omega (arith, c.as_bytes-bytes.ensures.len)) sign same some.0 c.digits_after-digits.result some.1
    c.in-Some-hex_number.number c.in-Some-hex_number.ensures.found scalar.0)
