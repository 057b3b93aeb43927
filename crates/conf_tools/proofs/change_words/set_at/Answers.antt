-- The change was made ready, and made.
use Rattle.std.{proofs.Common.{refl, sym, subst}, specs.Prelude.{Result, Ok, Err}}
use Rattle.conf_tools.specs.{Performs.{ChangesAt, ChangesIf}, declared.changes.{Action.Action, Change.TheVariants.Act}}
use Rattle.conf_tools.specs.declared.{texts.ToolFault.ToolFault, outcome.Ending.TheVariants.{Of, ToldFault}}
use Rattle.conf_tools.{specs.declared.world.Access.TheVariants.Changing, proofs.EditLemmas.{placed-err, placed-ok}}
use Rattle.conf_tools.proofs.change_words.set_at.Goals as goal

pub returns-in-Ok-clause-sets : goal.returns-in-Ok-clause-sets
returns-in-Ok-clause-sets g c = record {
  action = Ok c.in-Ok.set;
  seen = c.set_of.new.world;
  is = c.in-Ok.ensures.sets;
  changes = subst (λ (r : Result Action ToolFault). ChangesAt g.A.World.model g.A.Disk.Disk.model
      c.args.target.conditions c.args.about Changing
      c.args.target.folder.now c.args.target.name.now c.args.target.pointer.now r c.set_of.new.world c.change_if.new.world
      (Of c.change_if.result)) (sym (placed-ok c.args.put.placing c.in-Ok.set))
      (subst (λ (action : Action). ChangesIf g.A.World.model g.A.Disk.Disk.model c.args.target.conditions Changing
      c.args.target.folder.now c.args.target.name.now c.args.target.pointer.now (Act action c.args.about) c.set_of.new.world
      c.change_if.new.world (Of c.change_if.result)) c.placed-action.ensures c.change_if.ensures.makes);
}

pub returns-in-Ok-clause-leaves : goal.returns-in-Ok-clause-leaves
returns-in-Ok-clause-leaves g c = (c.set_of.new.errors, c.in-Ok.ensures.told, c.change_if.ensures.told)

pub returns-in-Err-clause-sets : goal.returns-in-Err-clause-sets
returns-in-Err-clause-sets g c = record {
  action = Err c.in-Err.fault;
  seen = c.set_of.new.world;
  is = c.in-Err.ensures.sets;
  changes = subst (λ (r : Result Action ToolFault). ChangesAt g.A.World.model g.A.Disk.Disk.model
      c.args.target.conditions c.args.about Changing
      c.args.target.folder.now c.args.target.name.now c.args.target.pointer.now r c.set_of.new.world c.set_of.new.world
      (ToldFault c.in-Err.fault)) (sym (placed-err c.args.put.placing c.in-Err.fault)) (refl, refl);
}

pub returns-in-Err-clause-leaves : goal.returns-in-Err-clause-leaves
returns-in-Err-clause-leaves g c = c.in-Err.ensures.refused
