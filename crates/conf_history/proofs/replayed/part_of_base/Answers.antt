-- Bytes that come back are those that were given.
use Rattle.std.{proofs.Common.{ap, subst, ◌∙◌}, specs.Prelude.{IfNone, IfOk}}
use Rattle.conf_history.proofs.Prelude.{IsNoBase}
use Rattle.conf_history.proofs.replayed.part_of_base.Goals as goal

pub returns-in-Err-default-OtherForm-clause-none : goal.returns-in-Err-default-OtherForm-clause-none
returns-in-Err-default-OtherForm-clause-none c =
    let same = c.deref.ensures.value ∙ ap (λ given. given.items) c.in-Err-default-OtherForm.ensures.refused in
    subst (λ bytes. IfOk c.spelled_part.result (λ read. IfNone read (IsNoBase bytes))) same c.spelled_part.ensures.none
