use Rattle.std.proofs.Common.{sym, ap, ◌∙◌}
use Rattle.conf_about.{proofs.Prelude.{members_of, tree_of, tree_of-Map}, specs.Abouts.{fault_of, first_of, pairs_fault, whole_fault}}
use Rattle.conf_about.proofs.finding.first_fault.Goals as goal

pub returns-in-Some : goal.returns-in-Some
returns-in-Some c =
    let ps = c.in-Map.pairs.items in
    let seen = ap tree_of c.in-Map.is ∙ tree_of-Map c.in-Map.pairs in
    let found = c.in-Some.ensures ∙ ap (λ qs. pairs_fault (members_of qs)) c.deref.ensures.value in
    ap (λ o. first_of o (whole_fault (members_of ps))) found ∙ ap fault_of (sym seen)

pub returns-in-None : goal.returns-in-None
returns-in-None c =
    let ps = c.in-Map.pairs.items in
    let seen = ap tree_of c.in-Map.is ∙ tree_of-Map c.in-Map.pairs in
    let found = c.in-None.ensures ∙ ap (λ qs. pairs_fault (members_of qs)) c.deref.ensures.value in
    c.whole_fault.ensures ∙ ap (λ qs. whole_fault (members_of qs)) c.deref-in-None.ensures.value
    ∙ ap (λ o. first_of o (whole_fault (members_of ps))) found ∙ ap fault_of (sym seen)
