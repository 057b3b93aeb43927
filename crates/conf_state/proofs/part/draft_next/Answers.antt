use Rattle.std.proofs.Common.{arith}
use Rattle.conf_state.{specs.Commands.command_of, proofs.PartStates.{checked-part, checked-ok, checked-refused}}
use Rattle.conf_state.proofs.part.draft_next.Goals as goal

pub returns-clause-part : goal.returns-clause-part
returns-clause-part g c =
    let made = c.in_ok-draft_command.ensures in
    checked-part (g.O.Origin.configs c.args.origin.now) c.args.draft.now c.draft_command.new.draft made.draft c.args.count
    (command_of c.args.command) made.ok c.check_room.result c.check_room.ensures.ok c.check_room.ensures.counts c.check_room.ensures.short

pub returns-clause-ok : goal.returns-clause-ok
returns-clause-ok g c =
    let made = c.in_ok-draft_command.ensures in
    checked-ok (g.O.Origin.configs c.args.origin.now) c.args.draft.now c.draft_command.new.draft made.draft c.args.count
    (command_of c.args.command) made.ok c.check_room.result c.check_room.ensures.ok c.check_room.ensures.short

pub returns-clause-refused : goal.returns-clause-refused
returns-clause-refused g c =
    let made = c.in_ok-draft_command.ensures in
    let counted = made.draft.counted in
    checked-refused (g.O.Origin.configs c.args.origin.now) c.args.draft.now c.draft_command.new.draft made.draft c.args.count
    (command_of c.args.command) made.ok c.check_room.result (omega (arith, counted)) c.check_room.ensures.refused
