use Rattle.std.proofs.Common.{sym, subst}
use Rattle.conf_files.{specs.Standing.KeepsStanding, proofs.Standing.{KeepsStanding-told, KeepsStanding-none, KeepsStanding-joined}}
use Rattle.conf_files.proofs.rights.take_after.Goals.{then-made-replaced, else-made-replaced+else-made-replaced-2}
use Rattle.conf_files.proofs.rights.take_after.Goals as goal

pub returns-clause-keeps : goal.returns-clause-keeps
returns-clause-keeps g c h =
    let model = g.C.FileCalls.model in
    let replaced = c.args.replaced in
    let told = c.new_rights.new.self in
    let given = c.if-made-replaced.calls in
    let gives : KeepsStanding model replaced told given = elim c.if-made-replaced.branch [
      | then-made-replaced w ↦ subst (KeepsStanding model replaced told) (sym w.calls-is) (w.give_owner_and_group.ensures.keeps h)
      | else-made-replaced+else-made-replaced-2 w ↦ subst (KeepsStanding model replaced told) (sym w.calls-is)
          (KeepsStanding-none model replaced told)
    ] in
    KeepsStanding-joined model replaced c.args.calls.now given c.give_mode.new.calls
    (KeepsStanding-joined model replaced c.args.calls.now told given
    (KeepsStanding-told model replaced c.args.calls.now told (c.new_rights.ensures.same h) (c.new_rights.ensures.time h)) gives)
    (c.give_mode.ensures.keeps h)
