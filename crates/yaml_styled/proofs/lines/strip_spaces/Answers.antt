use Rattle.std.proofs.Common.{◌≡◌, ◌+◌, ◌-◌, ap, subst, ◌∙◌, arith, rules}
use Rattle.yaml_styled.{proofs.Prelude.{replicate-append-replicate, space_char, spaces}, specs.Comparing.{GoesOn, goes_on_both}}
use Rattle.yaml_styled.proofs.lines.strip_spaces.Goals as goal

pub loop-left-preserved : goal.loop-left-preserved
loop-left-preserved c = (
  search rules,
  λ rest more.
      let left = c.loop-left.left in
      let text = c.loop-left.rest.now in
      let between = c.in_ok-rest.rest.now in
      let split : 16 + (left - 16) ≡ left = omega arith in
      let both = goes_on_both text between rest (spaces 16) (spaces (left - 16)) c.in_ok-rest.ensures more in
      let same = replicate-append-replicate 16 (left - 16) space_char ∙ ap spaces split in
      c.loop-left.invariant.1 rest (subst (λ written. GoesOn text written rest) same both),
)

pub returns : goal.returns
returns c = c.loop-left.invariant.1 c.in_ok-row.row.now c.in_ok-row.ensures
