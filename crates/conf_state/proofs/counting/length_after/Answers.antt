use Rattle.std.proofs.Common.{arith}
use Rattle.conf_state.proofs.EditLemmas.{edit-length, edit-short}
use Rattle.conf_state.proofs.counting.length_after.Goals as goal

pub length_after-requires-clause-there : goal.length_after-requires-clause-there
length_after-requires-clause-there c =
    let at = c.requires in
    omega (arith, edit-length at.0 at.1 at.2 at.3 c.args.change at.6 at.7, at.4)

pub overflow_cast-result : goal.overflow_cast-result
overflow_cast-result c =
    let at = c.requires in
    omega (
      arith,
      edit-length at.0 at.1 at.2 at.3 c.args.change at.6 at.7,
      edit-short at.0 at.1 at.2 at.3 at.6 (omega (arith, at.4, at.5)) at.8,
      c.length_after.ensures,
      at.4,
    )

pub returns : goal.returns
returns c = λ configs name old new before there changes.
    omega (arith, edit-length configs name old new c.args.change there changes, c.length_after.ensures, before)
