-- The three parts of the line are told one after the other.
use Rattle.std.proofs.Common.{◌++◌}
use Rattle.conf_tools.specs.Refused.{fault_and_more, place_text}
use Rattle.conf_tools.proofs.reporter.tell_placed.Goals as goal

pub returns : goal.returns
returns g c =
    let both = g.met.E.Listener.hears_both in
    let place = place_text c.args.place.line c.args.place.column in
    both c.args.errors.now c.tell_place.new.errors c.tell_fault_and_more.new.errors (c.args.text.now ++ place)
    (fault_and_more c.args.name.now c.args.more.now)
    (both c.args.errors.now c.tell.new.self c.tell_place.new.errors c.args.text.now place c.tell.ensures c.tell_place.ensures)
    c.tell_fault_and_more.ensures
