-- A file was made of the copy that was read, or none was.
use Rattle.std.proofs.Common.{Some, subst}
use Rattle.conf_history.{specs.{Prelude.is_several, Copies.{CreatesFile, RefusesFile}}, proofs.{Prelude.LeavesStoreOr, CopyLemmas.backs-up}}
use Rattle.conf_history.proofs.CopyLemmas.{copy-leaves, refuses-copy}
use Rattle.conf_history.proofs.copying.back_up.Goals as goal

pub returns-in-Ok-create_file-clause-made : goal.returns-in-Ok-create_file-clause-made
returns-in-Ok-create_file-clause-made g c h =
    let d = g.D.Disk in
    let old = d.model.folder c.args.disk in
    let new = d.model.folder c.create_file.new.disk in
    backs-up (is_several c.args.waiting) (g.R.Read.remaining c.args.reader.now)
    (g.R.Read.remaining c.read_copy.new.reader) c.in-Ok.copy.items c.in-Ok.ensures.ok old new
    (subst (λ bytes. CreatesFile old bytes new) c.deref.ensures.value (c.in-Ok-create_file.ensures.made h))

pub returns-in-Ok-create_file-clause-leaves : goal.returns-in-Ok-create_file-clause-leaves
returns-in-Ok-create_file-clause-leaves g c h =
    let d = g.D.Disk in
    copy-leaves (is_several c.args.waiting) (g.R.Read.remaining c.args.reader.now)
    (g.R.Read.remaining c.read_copy.new.reader) c.in-Ok.copy.items c.in-Ok.ensures.ok d.model c.args.disk
    c.create_file.new.disk
    (subst (λ bytes. LeavesStoreOr d.model (Some bytes) c.args.disk c.create_file.new.disk) c.deref.ensures.value
    (c.create_file.ensures.leaves h))

pub returns-clause-leaves : goal.returns-clause-leaves
returns-clause-leaves g c h =
    let d = g.D.Disk in
    copy-leaves (is_several c.args.waiting) (g.R.Read.remaining c.args.reader.now)
    (g.R.Read.remaining c.read_copy.new.reader) c.in-Ok.copy.items c.in-Ok.ensures.ok d.model c.args.disk
    c.create_file.new.disk
    (subst (λ bytes. LeavesStoreOr d.model (Some bytes) c.args.disk c.create_file.new.disk) c.deref.ensures.value
    (c.create_file.ensures.leaves h))

pub returns-clause-refused : goal.returns-clause-refused
returns-clause-refused g c h =
    let d = g.D.Disk in
    let old = d.model.folder c.args.disk in
    let new = d.model.folder c.create_file.new.disk in
    let fault = c.in-Err-create_file.fault in
    refuses-copy (is_several c.args.waiting) (g.R.Read.remaining c.args.reader.now)
    (g.R.Read.remaining c.read_copy.new.reader) c.in-Ok.copy.items c.in-Ok.ensures.ok old new fault
    (subst (λ bytes. RefusesFile old bytes fault new) c.deref.ensures.value (c.in-Err-create_file.ensures.refused h))
