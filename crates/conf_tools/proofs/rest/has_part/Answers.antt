-- The part does not stand at this place, so it stands further on or nowhere.
use Rattle.std.proofs.Common.{◌≡◌, List, ℕ, false, ◌==◌, ◌∙◌, sym, subst, rules}
use Rattle.conf_tools.proofs.{Prelude.{take_rest, starts_with}, TailLemmas.one_byte_on}
use Rattle.conf_tools.proofs.rest.has_part.Goals as goal

pub loop-at-preserved : goal.loop-at-preserved
loop-at-preserved c =
    let bytes = c.args.bytes.now in
    let part = c.args.part.now in
    let differs = subst (λ (xs : List ℕ). starts_with ◌==◌ xs part ≡ false) (take_rest bytes c.loop-at.at)
    (sym c.starts_with.ensures.value ∙ c.if-starts_with.false) in
    one_byte_on part bytes c.loop-at.at (search rules) differs ∙ c.loop-at.invariant
