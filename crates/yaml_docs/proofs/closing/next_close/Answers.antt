use Rattle.std.proofs.Common.{◌≡◌, ℕ, ◌+◌, ◌-◌, List, ◌++◌, sym, ◌∙◌, subst, arith, inl, inr, length, take, drop}
use Rattle.yaml_docs.proofs.Prelude.{starts_is, false≢true, cases_lt, Decides-eqb, take_rest, ClosesAt, OccursAt}
use Rattle.yaml_docs.specs.NextClosing.{StartsLine}
use Rattle.yaml_docs.proofs.ClosingLines.{closing_line, line_and_closing_line, starts_after, lies_within, closes_here, closes_after, shown}
use Rattle.yaml_docs.proofs.closing.next_close.Goals as goal

-- a closing line, and so the start of a line after it
again : (bytes : List ℕ) (place : ℕ) → ClosesAt bytes place → StartsLine bytes place
again bytes place closes = record { within = lies_within bytes place closes; line = starts_after bytes place closes }

pub returns-then-starts_with-clause-found : goal.returns-then-starts_with-clause-found
returns-then-starts_with-clause-found c =
    let bytes : List ℕ = c.args.bytes.now in
    let at : ℕ = c.args.at in
    let rest : List ℕ = take (length bytes - at) (drop at bytes) in
    let starts : rest ≡ closing_line ++ drop 4 rest =
    (starts_is Decides-eqb rest closing_line c.starts_with.result c.starts_with.ensures.value).0 c.if-starts_with.true in
    let found : drop at bytes ≡ closing_line ++ drop 4 (drop at bytes) =
    subst (λ (xs : List ℕ). xs ≡ closing_line ++ drop 4 xs) (take_rest bytes at) starts in
    record {
      after = omega arith;
      closes = closes_here bytes at c.requires.within c.requires.line (drop 4 (drop at bytes)) found;
      first = λ other l k. elim (shown bytes at c.requires.within c.requires.line other l k) [
        | inl here ↦ omega (arith, here.2)
        | inr later ↦ omega (arith, later.2)
      ];
    }

pub returns-in_default-clause-none : goal.returns-in_default-clause-none
returns-in_default-clause-none c =
    let bytes : List ℕ = c.args.bytes.now in
    let at : ℕ = c.args.at in
    let rest : List ℕ = take (length bytes - at) (drop at bytes) in
    λ place l k. elim (shown bytes at c.requires.within c.requires.line place l k) [
      | inl here ↦
          absurd (false≢true (sym c.if-starts_with.false
          ∙ (starts_is Decides-eqb rest closing_line c.starts_with.result c.starts_with.ensures.value).1 here.0
          (take_rest bytes at ∙ here.1)))
      | inr later ↦ (let occurs : OccursAt rest line_and_closing_line later.0 =
          subst (λ (xs : List ℕ). OccursAt xs line_and_closing_line later.0) (sym (take_rest bytes at)) later.1 in
          c.in_default.ensures later.0 (omega arith) (omega (arith, occurs.fits)) occurs)
    ]

pub returns-clause-found : goal.returns-clause-found
returns-clause-found c =
    let bytes : List ℕ = c.args.bytes.now in
    let at : ℕ = c.args.at in
    let rest : List ℕ = take (length bytes - at) (drop at bytes) in
    let line : ℕ = c.in-Some.line in
    let found = c.in-Some.ensures in
    let occurs : OccursAt (drop at bytes) line_and_closing_line line =
    subst (λ (xs : List ℕ). OccursAt xs line_and_closing_line line) (take_rest bytes at) found.1 in
    record {
      after = omega arith;
      closes = closes_after bytes at c.requires.within c.requires.line line occurs;
      first = λ other l k. elim (shown bytes at c.requires.within c.requires.line other l k) [
        | inl here ↦
            absurd (false≢true (sym c.if-starts_with.false
            ∙ (starts_is Decides-eqb rest closing_line c.starts_with.result c.starts_with.ensures.value).1 here.0
            (take_rest bytes at ∙ here.1)))
        | inr later ↦ elim (cases_lt later.0 line) [
          | inl low ↦ absurd (found.0.before later.0 (omega arith) low
              (subst (λ (xs : List ℕ). OccursAt xs line_and_closing_line later.0) (sym (take_rest bytes at)) later.1))
          | inr high ↦ omega (arith, later.2, high)
        ]
      ];
    }

pub returns-then-starts_with-clause-starts_line : goal.returns-then-starts_with-clause-starts_line
returns-then-starts_with-clause-starts_line c = again c.args.bytes.now (c.args.at + 4) (returns-then-starts_with-clause-found c).closes

pub returns-clause-starts_line : goal.returns-clause-starts_line
returns-clause-starts_line c = again c.args.bytes.now (c.args.at + c.in-Some.line + 5) (returns-clause-found c).closes
