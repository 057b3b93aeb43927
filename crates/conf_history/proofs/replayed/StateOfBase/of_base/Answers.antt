-- Bytes that are borrowed are those that were given.
use Rattle.std.{proofs.Common.subst, specs.Prelude.{IfNone, IfOk}}
use Rattle.conf_history.proofs.Prelude.{IsNoBase}
use Rattle.conf_history.proofs.replayed.StateOfBase.of_base.Goals as goal

pub returns-clause-none : goal.returns-clause-none
returns-clause-none c =
    subst (λ bytes. IfOk c.read_base.result (λ read. IfNone read (IsNoBase bytes))) c.deref.ensures.value c.read_base.ensures.none
