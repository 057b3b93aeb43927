use Rattle.std.proofs.Common.{ap, arith}
use Rattle.conf_state.{specs.BaseTexts.entries_length, proofs.EditLemmas.edit-length}
use Rattle.conf_state.proofs.draft_length.length_changed.Goals as goal

pub length_after-after-requires-clause-there : goal.length_after-after-requires-clause-there
length_after-after-requires-clause-there c =
    let at = c.requires in
    let one = at.4 in
    omega (arith, edit-length at.0 at.2 one.before one.after c.args.change one.there one.changes, at.3)

pub returns : goal.returns
returns c = λ old new name before one.
    let made = ap entries_length one.made in
    omega (arith, edit-length old name one.before one.after c.args.change one.there one.changes, c.length_after-after.ensures, before, made)
