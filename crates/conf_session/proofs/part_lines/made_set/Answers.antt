use Rattle.std.proofs.Common.{◌≡◌, IfSome, subst, ap}
use Rattle.conf_session.{proofs.Prelude.{chars, text, tree_of, set_at, text_of}, specs.Said.plain}
use Rattle.conf_session.proofs.part_lines.made_set.Goals as goal

pub returns : goal.returns
returns c =
    let name_is : text_of c.in_ok-name.name ≡ chars c.args.name.now = ap chars c.in_ok-name.ensures.ok in
    let path_is : text_of c.in_ok-path.path ≡ chars c.args.path.now = ap chars c.in_ok-path.ensures.ok in
    let value_is : tree_of c.in-Some.value ≡ text (chars c.args.value.now) =
    subst (λ made. IfSome made (λ config. tree_of config ≡ text (chars c.args.value.now))) c.in-Some.is c.in_ok-value.ensures in
    λ i. plain (set_at (name_is i) (path_is i) (value_is i))
