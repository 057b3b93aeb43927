-- The change was made, and then it is told whether the text was refused.
use Rattle.std.{proofs.Common.{[], inl, refl, subst}, specs.Prelude.{Ok, Err}}
use Rattle.conf_tools.specs.{Performs.ChangesIf, declared.{changes.Change.TheVariants.Act, world.Access.Access}}
use Rattle.conf_tools.{specs.declared.outcome.Ending.TheVariants.{Of, ToldFault}, proofs.OutcomeLemmas.import_left}
use Rattle.conf_tools.proofs.change_words.import_bytes.Goals as goal

pub returns-in-Ok-clause-imports : goal.returns-in-Ok-clause-imports
returns-in-Ok-clause-imports g c = record {
  action = Ok c.in-Ok.action;
  is = c.in-Ok.ensures;
  made = Of c.change_if-ended.result;
  changes = subst (λ (access : Access). ChangesIf g.A.World.model g.A.Disk.Disk.model c.args.asked.conditions access
      c.args.asked.folder.now c.args.asked.name.now [] (Act c.in-Ok.action c.args.about) c.args.world.now c.change_if-ended.new.world
      (Of c.change_if-ended.result)) c.access_of-access.ensures c.change_if-ended.ensures.makes;
  ends = c.tell_import.ensures.ends;
}

pub returns-in-Ok-clause-leaves : goal.returns-in-Ok-clause-leaves
returns-in-Ok-clause-leaves g c =
    import_left g.E.Listener.hears c.tell_import.result c.args.errors.now c.change_if-ended.new.errors c.tell_import.new.errors
    c.change_if-ended.ensures.told c.tell_import.ensures.tells

pub returns-in-Err-clause-imports : goal.returns-in-Err-clause-imports
returns-in-Err-clause-imports g c = record {
  action = Err c.in-Err.fault;
  is = c.in-Err.ensures;
  made = ToldFault c.in-Err.fault;
  changes = (refl, refl);
  ends = refl;
}

pub returns-in-Err-clause-leaves : goal.returns-in-Err-clause-leaves
returns-in-Err-clause-leaves g c = (c.args.errors.now, inl refl, c.tell_fault.ensures.told)
