-- The four parts of the place are told one after the other.
use Rattle.std.proofs.Common.{◌++◌, subst, codes, decimal}
use Rattle.conf_tools.proofs.reporter.tell_place.Goals as goal

pub returns : goal.returns
returns g c =
    let both = g.met.E.Listener.hears_both in
    let line = decimal c.args.place.line in
    let column = decimal c.args.place.column in
    both c.args.errors.now c.tell-3.new.self c.tell-4.new.self (codes ":" ++ line ++ codes ":") column
    (both c.args.errors.now c.tell-2.new.self c.tell-3.new.self (codes ":" ++ line) (codes ":")
    (both c.args.errors.now c.tell.new.self c.tell-2.new.self (codes ":") line c.tell.ensures
    (subst (λ digits. g.E.Listener.hears c.tell.new.self digits c.tell-2.new.self) c.format.ensures.text c.tell-2.ensures))
    c.tell-3.ensures)
    (subst (λ digits. g.E.Listener.hears c.tell-3.new.self digits c.tell-4.new.self) c.format-2.ensures.text c.tell-4.ensures)
