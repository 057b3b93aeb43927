-- The line is that of the command, with the number after the count.
use Rattle.std.proofs.Common.{refl, subst, ◌+◌}
use Rattle.conf_history.{proofs.Prelude.command_of, specs.Logs.TellsEntry}
use Rattle.conf_history.proofs.logged.LoggedReplayed.perform.Goals as goal

pub returns-clause-told : goal.returns-clause-told
returns-clause-told c = (
  refl,
  subst (λ n. TellsEntry c.args.self.now.request c.in_ok-told.told (n + 1) (command_of c.args.command)) c.count.ensures.count
      c.in_ok-told.ensures,
)
