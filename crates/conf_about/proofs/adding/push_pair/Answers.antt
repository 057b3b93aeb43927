use Rattle.std.proofs.Common.{rules, sym, ap, ◌∙◌}
use Rattle.conf_about.proofs.Prelude.{chars, mapping, members_of, on_err_weaker, on_ok_weaker, text_bytes, the_lemmas, tree_of, tree_of-Map}
use Rattle.conf_about.specs.AboutWords.{with_pair}
use Rattle.conf_about.proofs.adding.push_pair.Goals as goal

pub returns-in-Map-clause-ok : goal.returns-in-Map-clause-ok
returns-in-Map-clause-ok c =
    let seen = ap tree_of c.in-Map.is ∙ tree_of-Map c.in-Map.pairs ∙ ap (λ w. mapping (members_of w.items)) (sym c.in-Map.pairs-is) in
    let done = on_ok_weaker c.push_last.result (λ h. tree_of-Map c.push_last.new.pairs ∙ ap mapping h
    ∙ ap (λ t. with_pair t (chars (text_bytes c.args.key)) (chars (text_bytes c.args.text))) (sym seen)) c.push_last.ensures.ok in
    search (rules, the_lemmas, done)

pub returns-in-Map-clause-same : goal.returns-in-Map-clause-same
returns-in-Map-clause-same c =
    let seen = ap tree_of c.in-Map.is ∙ tree_of-Map c.in-Map.pairs ∙ ap (λ w. mapping (members_of w.items)) (sym c.in-Map.pairs-is) in
    let done = on_err_weaker c.push_last.result (λ h. tree_of-Map c.push_last.new.pairs ∙ ap mapping h ∙ sym seen)
    c.push_last.ensures.same in
    search (rules, the_lemmas, done)
