-- The line is told in three parts.
use Rattle.std.specs.Prelude.{◌++◌, codes}
use Rattle.conf_tools.proofs.listener.tell_name.Goals as goal

pub returns : goal.returns
returns g c =
    let both = g.met.E.Listener.hears_both in
    both c.args.errors.now c.tell-2.new.self c.tell-3.new.self (codes "confstore: " ++ c.args.name.now) (codes "\n")
    (both c.args.errors.now c.tell.new.self c.tell-2.new.self (codes "confstore: ") c.args.name.now c.tell.ensures c.tell-2.ensures)
    c.tell-3.ensures
