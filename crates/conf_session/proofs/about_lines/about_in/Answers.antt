use Rattle.std.proofs.Common.{◌≡◌, ◌++◌, codes, rules, sym, ap, subst, ◌∙◌, IfSome}
use Rattle.conf_session.proofs.{Prelude.{members_of, tree_of, tree_of-Map, IsAbout}, AboutLineLemmas.about_lines}
use Rattle.conf_session.specs.CommandLines.{ArePairLines, IsAboutLines}
use Rattle.conf_session.proofs.about_lines.about_in.Goals as goal

pub returns-in-Ok : goal.returns-in-Ok
returns-in-Ok c =
    let lines = c.in-Some.lines.now in
    let pairs = c.in-Some-2.pairs in
    let about = tree_of c.in-Ok.about in
    let spelled : codes "about:\n" ++ lines ≡ c.args.lines.now = search rules in
    let are : ArePairLines lines (members_of pairs.items) (codes "...\n") =
    subst (λ found. IfSome found (λ ps. ArePairLines lines (members_of ps.items) (codes "...\n"))) c.in-Some-2.is c.in_ok-pairs.ensures in
    let same = ap tree_of c.in-Ok.ensures.ok.0 in
    subst (λ cs. IsAboutLines cs about) spelled
    (about_lines lines (members_of pairs.items) about are (same ∙ tree_of-Map pairs) (subst IsAbout (sym same) c.in-Ok.ensures.ok.1))
