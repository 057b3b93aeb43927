use Rattle.std.{proofs.Common.{◌+◌, ◌≡◌, ◌∙◌, sym, arith, false, refl, true, None}, specs.Cow.cow_str_bytes}
use Rattle.yaml_flow_scalars.proofs.Prelude.{chars, rest, context_of, Refuses, line_starts, single_style, first, quote, err_so, ok_so}
use Rattle.yaml_flow_scalars.proofs.{Prelude.refuses_so, Results.ok_both, InsideLines.ends_inside_line, Unbroken.opened_unbroken}
use Rattle.yaml_flow_scalars.{proofs.SinglePlaces.{no_single, quote_at, single_found}, specs.Standing.{IsUnbroken, NoScalarAt, ScalarAt}}
use Rattle.yaml_flow_scalars.specs.SingleScalars.{IsInside, read_inside}
use Rattle.yaml_flow_scalars.proofs.single_quoted.single.Goals as goal

pub unquoted-requires-clause-start : goal.unquoted-requires-clause-start
unquoted-requires-clause-start c =
    let q : first quote (rest c.args.text.now c.args.at) ≡ true = sym c.stands_at.ensures ∙ c.if-not-stands_at.false in
    (quote_at c.args.text.now c.args.at c.utf8.text c.requires q).next

pub returns-clause-found : goal.returns-clause-found
returns-clause-found c =
    let q : first quote (rest c.args.text.now c.args.at) ≡ true = sym c.stands_at.ensures ∙ c.if-not-stands_at.false in
    ok_so c.unquoted.result (λ r. IsInside c.args.n (context_of c.args.context) c.args.text.now (c.args.at + 1)
    (chars (cow_str_bytes r.0)) r.1)
    (λ r. ScalarAt single_style c.args.n (context_of c.args.context) c.args.text.now c.args.at (chars (cow_str_bytes r.0)) r.1)
    (λ r i. single_found c.args.n (context_of c.args.context) c.args.text.now c.args.at c.utf8.text c.requires
    (chars (cow_str_bytes r.0)) r.1 q i) c.unquoted.ensures.found

pub returns-clause-none : goal.returns-clause-none
returns-clause-none c =
    let q : first quote (rest c.args.text.now c.args.at) ≡ true = sym c.stands_at.ensures ∙ c.if-not-stands_at.false in
    let nothing = read_inside c.args.n (context_of c.args.context) (rest c.args.text.now (c.args.at + 1)) ≡ None in
    let no_scalar = NoScalarAt single_style c.args.n (context_of c.args.context) c.args.text.now c.args.at in
    err_so c.unquoted.result (λ fault. Refuses fault nothing) (λ fault. Refuses fault no_scalar)
    (λ fault h. refuses_so fault nothing no_scalar
    (λ none. no_single c.args.n (context_of c.args.context) c.args.text.now c.args.at c.utf8.text c.requires q
    none) h) c.unquoted.ensures.none

pub returns-clause-unbroken : goal.returns-clause-unbroken
returns-clause-unbroken c =
    let q : first quote (rest c.args.text.now c.args.at) ≡ true = sym c.stands_at.ensures ∙ c.if-not-stands_at.false in
    let there = quote_at c.args.text.now c.args.at c.utf8.text c.requires q in
    ok_so c.unquoted.result
    (λ r. IsInside c.args.n (context_of c.args.context) c.args.text.now (c.args.at + 1)
    (chars (cow_str_bytes r.0)) r.1 × IsUnbroken c.args.text.now (c.args.at + 1) r.0 r.1)
    (λ r. IsUnbroken c.args.text.now c.args.at r.0 r.1)
    (λ r both borrowed. let inside = both.0 in let above = inside.above in
    opened_unbroken c.args.text.now c.args.at r.1 39 c.utf8.text (omega arith) inside.boundary there.byte
    (omega arith) refl (both.1 borrowed))
    (ok_both c.unquoted.result (λ r. IsInside c.args.n (context_of c.args.context) c.args.text.now (c.args.at + 1)
    (chars (cow_str_bytes r.0)) r.1)
    (λ r. IsUnbroken c.args.text.now (c.args.at + 1) r.0 r.1) c.unquoted.ensures.found c.unquoted.ensures.unbroken)

pub returns-clause-ends_inside_line : goal.returns-clause-ends_inside_line
returns-clause-ends_inside_line c =
    ok_so c.unquoted.result (λ r. ScalarAt single_style c.args.n (context_of c.args.context) c.args.text.now c.args.at
    (chars (cow_str_bytes r.0)) r.1) (λ r. line_starts c.args.text.now r.1 ≡ false)
    (λ r s. ends_inside_line single_style c.args.n (context_of c.args.context) c.args.text.now c.args.at
    (chars (cow_str_bytes r.0)) r.1 c.utf8.text c.requires s) (returns-clause-found c)
