-- The three parts of the line are told one after the other.
use Rattle.std.proofs.Common.{◌++◌, subst, codes}
use Rattle.conf_tools.specs.Tails.{cause_text, unperformed_bytes}
use Rattle.conf_tools.proofs.rest.tell_unperformed.Goals as goal

pub returns : goal.returns
returns g c =
    let both = g.met.E.Listener.hears_both in
    let first = unperformed_bytes c.args.rest in
    let why = cause_text c.args.cause in
    both c.args.errors.now c.tell.new.self c.tell-2.new.self (first ++ why) (codes "\n")
    (both c.args.errors.now c.tell_unperformed_bytes.new.errors c.tell.new.self first why c.tell_unperformed_bytes.ensures
    (subst (λ text. g.E.Listener.hears c.tell_unperformed_bytes.new.errors text c.tell.new.self) c.text.ensures c.tell.ensures))
    c.tell-2.ensures
