use Rattle.std.proofs.Common.{sym, ap, ◌∙◌}
use Rattle.conf_about.{proofs.Prelude.{members_of, tree_of, tree_of-Map}, specs.Abouts.{pairs_in, pairs_of}}
use Rattle.conf_about.proofs.about.About.pairs.Goals as goal

pub returns-in-Map : goal.returns-in-Map
returns-in-Map c =
    let seen = ap tree_of c.in-Map.is ∙ tree_of-Map c.in-Map.pairs in
    c.of.ensures ∙ ap (λ ps. pairs_in (members_of ps)) c.deref.ensures.value ∙ ap pairs_of (sym seen)
    ∙ ap (λ t. pairs_of (tree_of t)) c.self.view_is
