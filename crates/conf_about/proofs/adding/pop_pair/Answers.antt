use Rattle.std.proofs.Common.{rules, sym, ap, ◌∙◌}
use Rattle.conf_about.proofs.{Prelude.{mapping, members_of, the_lemmas, tree_of, tree_of-Map}, AddLemmas.pair-off}
use Rattle.conf_about.proofs.adding.pop_pair.Goals as goal

pub returns-in-Map : goal.returns-in-Map
returns-in-Map c = λ before key text e.
    let seen = ap tree_of c.in-Map.is ∙ tree_of-Map c.in-Map.pairs ∙ ap (λ w. mapping (members_of w.items)) (sym c.in-Map.pairs-is) in
    let off = pair-off (members_of c.in-Map.pairs.items) (members_of c.pop_last.new.pairs.items) before key text
    (λ ns same. c.pop_last.ensures ns key text (ap (λ w. members_of w.items) c.in-Map.pairs-is ∙ same))
    (sym (ap tree_of c.in-Map.is ∙ tree_of-Map c.in-Map.pairs) ∙ e) in
    let done = tree_of-Map c.pop_last.new.pairs ∙ off in
    search (rules, the_lemmas, done)
