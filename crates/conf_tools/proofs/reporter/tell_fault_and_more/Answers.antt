-- The four parts are told one after the other.
use Rattle.std.proofs.Common.{◌++◌, codes}
use Rattle.conf_tools.proofs.reporter.tell_fault_and_more.Goals as goal

pub returns : goal.returns
returns g c =
    let both = g.met.E.Listener.hears_both in
    let name = c.args.name.now in
    let more = c.args.more.now in
    both c.args.errors.now c.tell-3.new.self c.tell-4.new.self (codes ": " ++ name ++ more) (codes "\n")
    (both c.args.errors.now c.tell-2.new.self c.tell-3.new.self (codes ": " ++ name) more
    (both c.args.errors.now c.tell.new.self c.tell-2.new.self (codes ": ") name c.tell.ensures c.tell-2.ensures) c.tell-3.ensures)
    c.tell-4.ensures
