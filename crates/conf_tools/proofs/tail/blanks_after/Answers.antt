-- The byte before the blank ones is not blank.
use Rattle.std.proofs.Common.{◌≡◌, ◌+◌, ◌-◌, ◌^◌, ◌≤◌, length, get_or, false, rules, arith}
use Rattle.conf_tools.{proofs.{Prelude.common_steps, TailLemmas.last_not_blank}, specs.Tails.is_blank}
use Rattle.conf_tools.proofs.tail.blanks_after.Goals as goal

pub returns-then-not-is_blank : goal.returns-then-not-is_blank
returns-then-not-is_blank c =
    let bytes = c.args.bytes.now in
    let one : c.blanks.at - 1 + 1 ≡ c.blanks.at = omega arith in
    let solid : is_blank (get_or bytes (c.blanks.at - 1) 0) ≡ false = first_of (search rules, grind (arith, common_steps)) in
    let short : length bytes ≤ 2 ^ 64 - 1 = omega (arith, c.blanks.invariant.short) in
    last_not_blank bytes (c.blanks.at - 1) c.blanks.at one c.blanks.invariant.within c.blanks.invariant.blank solid short
    c.args.blanks
