-- Nothing waits before the command, so a crash leaves one of two states.
use Rattle.std.proofs.Common.{[]}
use Rattle.conf_tools.proofs.ChangeLemmas.{command-leaves}
use Rattle.conf_tools.proofs.changes.perform.Goals as goal

pub returns-in-Ok-clause-any_moment : goal.returns-in-Ok-clause-any_moment
returns-in-Ok-clause-any_moment g c h on has =
    command-leaves c.one_state_is_flushed.ensures.nothing g.D.Disk.model c.args.store.now c.apply.new.self
    (c.apply.ensures.any_moment h on c.args.store.now.state [] has)

pub returns-in-Err-clause-any_moment : goal.returns-in-Err-clause-any_moment
returns-in-Err-clause-any_moment g c h on has =
    command-leaves c.one_state_is_flushed.ensures.nothing g.D.Disk.model c.args.store.now c.apply.new.self
    (c.apply.ensures.any_moment h on c.args.store.now.state [] has)
