use Rattle.std.{proofs.Common.{codes, refl, sym, ap, ◌∙◌}, specs.Prelude.is_some}
use Rattle.conf_session.proofs.{Prelude.{chars, same_text, text_bytes, tree_of, ascii}, SaidLemmas.{about-cut, some-if}}
use Rattle.conf_session.proofs.said.ends_with_about.Goals as goal

pub returns-in-Some : goal.returns-in-Some
returns-in-Some c =
    let p = c.in-Some.field-0-0.now in
    let key = chars (text_bytes p.0) in
    c.is_same.ensures ∙ ap (λ b. same_text (chars b) (chars (codes "about"))) c.deref.ensures
    ∙ ap (same_text key) (ascii (codes "about") refl)
    ∙ some-if (same_text key (codes "about")) (tree_of p.1)
    ∙ sym (ap is_some (about-cut c.args.pairs.now c.in-Some.field-0-1.now p c.in-Some.ensures.cases.0))
