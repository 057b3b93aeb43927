use Rattle.std.proofs.Common.{◌≡◌, ℕ, ◌-◌, ◌++◌, take, ap, sym, ◌∙◌, arith, rules}
use Rattle.yaml_styled.proofs.Prelude.{take-replicate, get_or-replicate, space_char, spaces, encoded_spaces}
use Rattle.yaml_styled.proofs.lines.strip_last_spaces.Goals as goal

pub range-requires-clause-end_boundary : goal.range-requires-clause-end_boundary
range-requires-clause-end_boundary c = (
  omega arith,
  λ within wide.
      let space = get_or-replicate {A = ℕ} 16 c.args.count space_char 0 within in absurd (omega (arith, space, wide)),
)

pub returns : goal.returns
returns c =
    let count = c.args.count in
    let row = c.in_ok-row.row.now in
    let same : count - 0 ≡ count = omega arith in
    let cut : c.args.text.now ≡ c.range.result.now ++ row = search rules in
    let piece = c.range.ensures.value ∙ ap (λ n. take n (spaces 16)) same
    ∙ take-replicate count 16 space_char (omega arith) ∙ sym (encoded_spaces count) in
    cut ∙ ap (λ bytes. bytes ++ row) piece
