-- A crash leaves what it leaves while the store is made.
use Rattle.conf_history.{specs.Prelude.is_several, proofs.SalvageLemmas.made-leaves}
use Rattle.conf_history.proofs.saving.salvage.Goals as goal

pub returns-in-Ok-create_store-clause-leaves : goal.returns-in-Ok-create_store-clause-leaves
returns-in-Ok-create_store-clause-leaves g c h =
    made-leaves (is_several c.args.waiting) g.D.Disk.model (g.R.Read.remaining c.args.reader.now)
    (g.R.Read.remaining c.survey_store.new.reader) c.args.disk c.in-Ok-create_store.disk
    c.in-Ok.found.state c.in-Ok.found.findings c.in-Ok.ensures.ok (c.in-Ok-create_store.ensures.leaves h)

pub returns-in-Err-default-StoreExists-clause-leaves : goal.returns-in-Err-default-StoreExists-clause-leaves
returns-in-Err-default-StoreExists-clause-leaves g c h =
    made-leaves (is_several c.args.waiting) g.D.Disk.model (g.R.Read.remaining c.args.reader.now)
    (g.R.Read.remaining c.survey_store.new.reader) c.args.disk c.in-Err-default-StoreExists.disk
    c.in-Ok.found.state c.in-Ok.found.findings c.in-Ok.ensures.ok (c.in-Err-default-StoreExists.ensures.leaves h)

pub returns-in-Err-default-Device-clause-leaves : goal.returns-in-Err-default-Device-clause-leaves
returns-in-Err-default-Device-clause-leaves g c h =
    made-leaves (is_several c.args.waiting) g.D.Disk.model (g.R.Read.remaining c.args.reader.now)
    (g.R.Read.remaining c.survey_store.new.reader) c.args.disk c.in-Err-default-Device.disk
    c.in-Ok.found.state c.in-Ok.found.findings c.in-Ok.ensures.ok (c.in-Err-default-Device.ensures.leaves h)

pub returns-clause-leaves : goal.returns-clause-leaves
returns-clause-leaves g c h =
    made-leaves (is_several c.args.waiting) g.D.Disk.model (g.R.Read.remaining c.args.reader.now)
    (g.R.Read.remaining c.survey_store.new.reader) c.args.disk c.in-Err-default-OutOfMemory.disk
    c.in-Ok.found.state c.in-Ok.found.findings c.in-Ok.ensures.ok (c.in-Err-default-OutOfMemory.ensures.leaves h)
