-- The line is that for more than one byte.
use Rattle.std.proofs.Common.{◌≢◌, rules, arith}
use Rattle.conf_tools.{proofs.{Prelude.common_steps, DroppedLemmas.some_told}, specs.Dropped.dropped_line}
use Rattle.conf_tools.proofs.dropped.tell_dropped.Goals as goal

pub returns-in_default : goal.returns-in_default
returns-in_default g c =
    let told : g.E.Listener.hears c.args.errors.now (dropped_line c.args.dropped) c.tell_dropped_bytes.new.errors =
    first_of (search rules, grind (arith, common_steps)) in
    let some : c.args.dropped ≢ 0 = first_of (search rules, grind (arith, common_steps)) in
    some_told g.E.Listener.hears c.args.errors.now c.tell_dropped_bytes.new.errors c.args.dropped some told
