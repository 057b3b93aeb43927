-- The text that was read is the one that is imported.
use Rattle.std.proofs.Common.{inl, refl, subst}
use Rattle.conf_tools.specs.Performs.{ImportsBytes, access_of}
use Rattle.conf_tools.proofs.change_words.import_text.Goals as goal

pub returns-in-Ok-clause-imports : goal.returns-in-Ok-clause-imports
returns-in-Ok-clause-imports g c = rw (c.in-Ok.is)
    (subst (λ bytes. ImportsBytes g.A.World.model g.A.Disk.Disk.model c.args.asked.conditions c.args.about c.args.asked.root
    (access_of c.args.asked.missing) c.args.asked.folder.now c.args.asked.name.now bytes c.args.world.now
    c.import_bytes.new.world c.import_bytes.result)
    c.deref.ensures.value c.import_bytes.ensures.imports)

pub returns-in-Err-clause-leaves : goal.returns-in-Err-clause-leaves
returns-in-Err-clause-leaves g c = (c.args.errors.now, inl refl, c.tell_fault.ensures.told)
