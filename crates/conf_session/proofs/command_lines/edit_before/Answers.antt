use Rattle.std.proofs.Common.{refl, ap, inl, inr, subst, IfSome}
use Rattle.conf_session.proofs.Prelude.{edit_of, single, tree_of}
use Rattle.conf_session.specs.{Said.{plain, single_part, noted_said}, Requests.changing, CommandLines.IsAboutLines}
use Rattle.conf_session.proofs.command_lines.edit_before.Goals as goal

pub returns-then-is_end : goal.returns-then-is_end
returns-then-is_end c = (
  single_part (plain (edit_of c.args.edit)),
  inl (c.is_end.ensures c.if-is_end.true, refl),
  ap changing c.from.ensures,
)

pub returns : goal.returns
returns c =
    let about = tree_of c.in-Some.about in
    let change = single_part (plain (edit_of c.args.edit)) in
    let so : IsAboutLines c.args.rest.now about =
    subst (λ found. IfSome found (λ a. IsAboutLines c.args.rest.now (tree_of a))) c.in-Some.is c.in_ok-about.ensures in
    (noted_said about change, inr (about, so, refl), (changing (single (edit_of c.args.edit)), refl, refl))
