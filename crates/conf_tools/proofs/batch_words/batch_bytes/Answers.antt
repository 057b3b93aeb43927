-- The change was made, or there is none.
use Rattle.std.{proofs.Common.{[], refl, subst}, specs.Prelude.{Ok, Err}}
use Rattle.{conf_words.specs.declared.invocation.Conditions.Conditions, conf_tools.specs.Performs.ChangesIf}
use Rattle.conf_tools.specs.declared.{changes.Change.TheVariants.Act, outcome.Ending.TheVariants.Of, world.Access.TheVariants.Changing}
use Rattle.conf_tools.proofs.batch_words.batch_bytes.Goals as goal

pub returns-in-Ok-clause-makes : goal.returns-in-Ok-clause-makes
returns-in-Ok-clause-makes g c = record {
  action = Ok c.in-Ok.action;
  is = c.in-Ok.ensures;
  changes = subst (λ (wanted : Conditions). ChangesIf g.A.World.model g.A.Disk.Disk.model wanted Changing
      c.args.asked.folder.now [] [] (Act c.in-Ok.action c.args.about) c.args.world.now c.change_if.new.world
      (Of c.change_if.result)) c.conditions_of.ensures c.change_if.ensures.makes;
}

pub returns-in-Err-clause-makes : goal.returns-in-Err-clause-makes
returns-in-Err-clause-makes g c = record { action = Err c.in-Err.fault; is = c.in-Err.ensures; changes = (refl, refl) }
