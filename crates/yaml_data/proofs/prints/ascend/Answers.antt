use Rattle.std.proofs.Common.{◌≡◌, ◌+◌, ◌-◌, ◌<◌, get_or, refl, subst, arith}
use Rattle.yaml_data.proofs.prints.ascend.Goals as goal

pub returns-then-numbers-later : goal.returns-then-numbers-later
returns-then-numbers-later c =
    let ns = c.args.numbers.now in
    let later = c.loop-later.later in (
      λ never. absurd (cc),
      λ up.
          let place : later - 1 + 1 ≡ later = omega arith in
          let less = subst (λ n. get_or ns (later - 1) 0 < get_or ns n 0) place (up (later - 1) 0 (omega arith)) in
          absurd (omega (arith, less, c.if-numbers-later.true)),
    )

pub returns : goal.returns
returns c = (λ yes k d within. c.loop-later.invariant k d (omega arith), λ up. refl)
