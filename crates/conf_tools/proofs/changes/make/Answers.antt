-- Nothing waits before the change, so a crash leaves one of two states.
use Rattle.std.proofs.{Common.{[], subst}, lemmas.Result.on_ok_weaker}
use Rattle.conf_tools.{proofs.{Prelude.command_of, ChangeLemmas.checkpoint-leaves}, specs.Prelude.{AppendsRecord, store_file}}
use Rattle.conf_state.specs.Commands.{Command}
use Rattle.conf_tools.proofs.changes.make.Goals as goal

pub returns-in-Checkpoint-clause-any_moment : goal.returns-in-Checkpoint-clause-any_moment
returns-in-Checkpoint-clause-any_moment g c h on has =
    checkpoint-leaves c.one_state_is_flushed.ensures.nothing g.D.Disk.model c.args.store.now c.checkpoint.new.self
    (c.checkpoint.ensures.any_moment h on c.args.store.now.state [] has)

pub returns-in-Ok-clause-reads : goal.returns-in-Ok-clause-reads
returns-in-Ok-clause-reads g c h on = rw (c.in-Act.is)
    (on_ok_weaker c.perform.result
    (λ appends. record {
      command = command_of c.in-Ok.command;
      gives = c.in-Ok.ensures.ok;
      appends = subst (λ (given : Command). AppendsRecord c.args.store.now given (store_file g.D.Disk.model c.args.store.now.disk)
          (store_file g.D.Disk.model c.perform.new.store.disk)) c.with_about.ensures appends;
    })
    (c.perform.ensures.reads h on))
