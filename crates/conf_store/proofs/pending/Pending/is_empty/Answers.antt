use Rattle.std.proofs.Common.{◌<◌, length, sym, ◌∙◌, subst, arith}
use Rattle.conf_store.proofs.PendingLemmas.{some-parts, no-parts}
use Rattle.conf_store.proofs.pending.Pending.is_empty.Goals as goal

pub returns-clause-none : goal.returns-clause-none
returns-clause-none c none =
    let inside = c.self.inside in
    sym c.self.view_is ∙ no-parts inside.early inside.names.items _ (omega (arith, inside.names.ok.0)) (sym c.is_empty.ensures ∙ none)

pub returns-clause-some : goal.returns-clause-some
returns-clause-some c some =
    let inside = c.self.inside in
    subst (λ ps. 0 < length ps) c.self.view_is (some-parts inside.early inside.names.items _
    (omega (arith, inside.names.ok.0)) (sym c.is_empty.ensures ∙ some))
