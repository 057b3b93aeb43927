use Rattle.std.proofs.Common.{inl, inr, refl, subst, IfSome}
use Rattle.conf_session.{proofs.Prelude.tree_of, specs.CommandLines.IsAboutLines}
use Rattle.conf_session.proofs.command_lines.change_before.Goals as goal

pub returns-then-is_end : goal.returns-then-is_end
returns-then-is_end c = inl (c.is_end.ensures c.if-is_end.true, c.plain_said.ensures)

pub returns : goal.returns
returns c =
    let so : IsAboutLines c.args.rest.now (tree_of c.in-Some.about) =
    subst (λ found. IfSome found (λ a. IsAboutLines c.args.rest.now (tree_of a))) c.in-Some.is c.in_ok-about.ensures in
    inr (tree_of c.in-Some.about, so, refl)
