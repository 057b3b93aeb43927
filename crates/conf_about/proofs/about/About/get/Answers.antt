use Rattle.std.proofs.Common.{Ok, Err, ap, sym, ◌∙◌}
use Rattle.conf_about.{proofs.{Prelude.{chars, tree_of}, PairLemmas.under-child}, specs.Abouts.text_under}
use Rattle.conf_about.proofs.about.About.get.Goals as goal

pub returns-in-Ok : goal.returns-in-Ok
returns-in-Ok c =
    let key = chars c.args.key.now in
    c.text_in.ensures
    ∙ sym (under-child (tree_of c.self.inside.tree) key (Ok (tree_of c.in-Ok.value.now)) c.self.invariant c.in-Ok.ensures.ok)
    ∙ ap (λ t. text_under (tree_of t) key) c.self.view_is

pub returns-in-Err : goal.returns-in-Err
returns-in-Err c =
    let key = chars c.args.key.now in
    sym (under-child (tree_of c.self.inside.tree) key (Err c.in-Err.field-0) c.self.invariant c.in-Err.ensures.missed)
    ∙ ap (λ t. text_under (tree_of t) key) c.self.view_is
