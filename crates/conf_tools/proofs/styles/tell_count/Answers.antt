-- The three parts of the line are told one after the other.
use Rattle.std.proofs.Common.{◌++◌, subst, codes, decimal}
use Rattle.conf_tools.proofs.styles.tell_count.Goals as goal

pub returns : goal.returns
returns g c =
    let both = g.met.E.Listener.hears_both in
    let first = codes "confstore: comments left out: " in
    let count = decimal c.args.count in
    both c.args.errors.now c.tell-2.new.self c.tell-3.new.self (first ++ count) (codes "\n")
    (both c.args.errors.now c.tell.new.self c.tell-2.new.self first count c.tell.ensures
    (subst (λ digits. g.E.Listener.hears c.tell.new.self digits c.tell-2.new.self) c.format.ensures.text c.tell-2.ensures))
    c.tell-3.ensures
