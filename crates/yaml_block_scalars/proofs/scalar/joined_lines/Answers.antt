use Rattle.std.proofs.Common.{◌≡◌, ◌++◌, ap, ◌∙◌}
use Rattle.yaml_block_scalars.proofs.Prelude.{string_bytes, line_feeds}
use Rattle.yaml_block_scalars.proofs.scalar.joined_lines.Goals as goal

pub returns-clause-found : goal.returns-clause-found
returns-clause-found c =
    let fed : string_bytes c.push_line_feeds.new.value ≡ line_feeds c.args.empties = c.in_ok-push_line_feeds.ensures
    ∙ ap (λ x. x ++ line_feeds c.args.empties) c.in_ok-value.ensures.bytes in
    rw c.give_back_room.ensures (rw fed at c.in_ok-end.ensures.found)
