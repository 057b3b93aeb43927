use Rattle.std.proofs.Common.{is_some, sym, ap, ◌∙◌}
use Rattle.conf_state.proofs.OriginLemmas.{held-there, not-held}
use Rattle.conf_state.proofs.draft.Draft.has.Goals as goal

pub returns-in-Some : goal.returns-in-Some
returns-in-Some g c =
    let es = g.O.Origin.configs c.args.origin.now in
    sym (ap is_some (held-there es c.args.self.now c.requires c.args.name.now c.utf8.name c.in-Some.field-0.now (sym c.in-Some.ensures)))

pub returns-in-None : goal.returns-in-None
returns-in-None g c =
    let es = g.O.Origin.configs c.args.origin.now in
    c.leaves.ensures
    ∙ sym (ap is_some (not-held es c.args.self.now c.requires c.args.name.now c.utf8.name (sym c.in-None.ensures)))
