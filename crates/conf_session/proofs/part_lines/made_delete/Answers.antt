use Rattle.std.proofs.Common.{◌≡◌, ap}
use Rattle.conf_session.{proofs.Prelude.{chars, delete_at, text_of}, specs.Said.plain}
use Rattle.conf_session.proofs.part_lines.made_delete.Goals as goal

pub returns : goal.returns
returns c =
    let name_is : text_of c.in_ok-name.name ≡ chars c.args.name.now = ap chars c.in_ok-name.ensures.ok in
    let path_is : text_of c.in_ok-path.path ≡ chars c.args.path.now = ap chars c.in_ok-path.ensures.ok in
    λ i. plain (delete_at (name_is i) (path_is i))
