-- One more name.
use Rattle.std.proofs.Common.{◌∙◌}
use Rattle.conf_tools.{specs.Prelude.names_of, proofs.ConfigFileLemmas.{all-put, one-put, put-failed}}
use Rattle.conf_tools.proofs.config_files.put_each.Goals as goal

pub loop-name-preserved : goal.loop-name-preserved
loop-name-preserved g c = (
  one-put g.A.World.model g.A.File.Read.remaining c.args.form c.args.into.now c.args.state.now.configs _ c.loop-name.name-iterator
      c.next.new.self (names_of c.args.state.now.configs) c.in-Some.ensures.steps c.loop-name.world c.put_config.new.world
      c.args.world.now c.loop-name.invariant.0 c.in-Ok.ensures.puts,
  c.in-Ok.ensures.told ∙ c.loop-name.invariant.1,
)

pub returns-in-Err-clause-puts : goal.returns-in-Err-clause-puts
returns-in-Err-clause-puts g c =
    put-failed g.A.World.model g.A.File.Read.remaining c.args.form c.args.into.now c.args.state.now.configs _ c.loop-name.name-iterator
    c.next.new.self (names_of c.args.state.now.configs) c.in-Some.ensures.steps c.loop-name.world c.put_config.new.world
    c.args.world.now c.loop-name.invariant.0 c.in-Err.fault c.in-Err.ensures.puts

pub returns-clause-puts : goal.returns-clause-puts
returns-clause-puts g c =
    all-put g.A.World.model g.A.File.Read.remaining c.args.form c.args.into.now c.args.state.now.configs c.loop-name.name-iterator
    (names_of c.args.state.now.configs) c.in-None.ensures.steps.0 c.loop-name.world c.args.world.now c.loop-name.invariant.0
