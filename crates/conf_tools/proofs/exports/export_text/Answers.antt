-- The file was read, which changed nothing; or the device failed at that.
use Rattle.std.{proofs.Common.{◌≡◌, ◌∙◌, Err, inl, refl, ap, sym, subst, string_bytes}, specs.Prelude.{OnOk, option_map}}
use Rattle.{conf_disk.specs.Image.synced_file, conf_journal.specs.Held.HoldsStore, conf_tools.proofs.Prelude.{chars, Tells, bytes_under}}
use Rattle.conf_tools.proofs.{Prelude.{Image, Store, store_limit}, ExportLemmas.{alone-told, lasting-before, lasting-since, leaves-both}}
use Rattle.conf_tools.proofs.ExportLemmas.{leaves-meant, leaves-since, no-rest-before, quiet-before, quiet-since, refused-before}
use Rattle.conf_tools.{proofs.ExportLemmas.{refused-since, text-before, text-since}, specs.Exports.disk_back}
use Rattle.conf_tools.proofs.exports.export_text.Goals as goal

pub export_read-requires-clause-content : goal.export_read-requires-clause-content
export_read-requires-clause-content g c h =
    subst (λ file. Tells file store_limit c.in-Ok.content) (sym (ap (λ (image : Image). image.store) (c.load.ensures.reads h)))
    (c.in-Ok.ensures.content h)

pub export_read-requires-clause-synced : goal.export_read-requires-clause-synced
export_read-requires-clause-synced g c h image is =
    let d = g.D.Disk in
    let mid = d.model.folder c.load.new.disk in
    let file = bytes_under (d.model.folder c.args.disk) Store in
    let holds = subst (λ r. OnOk r (HoldsStore mid (option_map synced_file file))) c.in-Ok.is (c.load.ensures.holds h) in
    c.held_store_is_the_only_one.ensures.left mid file image holds
    (record { left = image; is = is; same = refl; noted = refl })
    ∙ sym (ap (λ (image : Image). image.store) (c.load.ensures.reads h))

pub returns-in-Ok-clause-ok : goal.returns-in-Ok-clause-ok
returns-in-Ok-clause-ok g c =
    let d = g.D.Disk in
    let mid = c.load.new.disk in
    let steady = subst (λ r. OnOk r (d.model.failure_count mid ≡ d.model.failure_count c.args.disk)) c.in-Ok.is
    c.load.ensures.failures.steady in
    text-before d.model c.args.disk mid steady (λ h. c.load.ensures.reads h) string_bytes c.args.form
    (chars c.args.name.now) c.export_read.result c.export_read.ensures.ok

pub returns-in-Ok-clause-refused : goal.returns-in-Ok-clause-refused
returns-in-Ok-clause-refused g c =
    let d = g.D.Disk in
    let mid = c.load.new.disk in
    let steady = subst (λ r. OnOk r (d.model.failure_count mid ≡ d.model.failure_count c.args.disk)) c.in-Ok.is
    c.load.ensures.failures.steady in
    refused-before d.model c.args.disk mid steady (λ h. c.load.ensures.reads h) (chars c.args.name.now)
    c.export_read.result c.export_read.ensures.refused

pub returns-in-Ok-clause-crashes : goal.returns-in-Ok-clause-crashes
returns-in-Ok-clause-crashes g c h =
    let mid = c.load.new.disk in
    leaves-both g.D.Disk.model c.args.disk mid (disk_back c.export_read.result)
    (λ t image le is. g.met.D.Disk.counts_now mid t image h le is) (c.load.ensures.any_moment h)
    (c.export_read.ensures.crashes h)

pub returns-in-Ok-clause-lasting : goal.returns-in-Ok-clause-lasting
returns-in-Ok-clause-lasting g c h =
    let d = g.D.Disk in
    let mid = c.load.new.disk in
    let steady = subst (λ r. OnOk r (d.model.failure_count mid ≡ d.model.failure_count c.args.disk)) c.in-Ok.is
    c.load.ensures.failures.steady in
    lasting-before d.model c.args.disk mid steady (λ h. c.load.ensures.reads h) string_bytes c.args.form
    (chars c.args.name.now) g.E.Listener.hears c.args.errors.now c.export_read.new.errors c.export_read.result h
    (c.export_read.ensures.lasting h)

pub returns-in-Ok-clause-quiet : goal.returns-in-Ok-clause-quiet
returns-in-Ok-clause-quiet g c h none =
    let d = g.D.Disk in
    let mid = c.load.new.disk in
    let steady = subst (λ r. OnOk r (d.model.failure_count mid ≡ d.model.failure_count c.args.disk)) c.in-Ok.is
    c.load.ensures.failures.steady in
    quiet-before d.model c.args.disk mid steady (λ h. c.load.ensures.reads h) g.E.Listener.hears c.args.errors.now
    c.export_read.new.errors (disk_back c.export_read.result)
    (c.export_read.ensures.quiet h (no-rest-before d.model c.args.disk mid steady (λ h. c.load.ensures.reads h) h none))

-- ---- the device failed

pub returns-in-Err-Device-clause-ok : goal.returns-in-Err-Device-clause-ok
returns-in-Err-Device-clause-ok g c =
    let failed = c.load.ensures.failures.device (c.in-Err-Device.is ∙ ap Err c.in-Err-Device.field-0-is) in
    text-since g.D.Disk.model c.args.disk c.load.new.disk failed
    (λ h. inl (ap (λ (image : Image). image.store) (c.load.ensures.reads h))) string_bytes c.args.form
    (chars c.args.name.now) c.read_text.result c.read_text.ensures.risen c.read_text.ensures.same c.read_text.ensures.ok

pub returns-in-Err-Device-clause-refused : goal.returns-in-Err-Device-clause-refused
returns-in-Err-Device-clause-refused g c =
    let failed = c.load.ensures.failures.device (c.in-Err-Device.is ∙ ap Err c.in-Err-Device.field-0-is) in
    refused-since g.D.Disk.model c.args.disk c.load.new.disk failed
    (λ h. inl (ap (λ (image : Image). image.store) (c.load.ensures.reads h))) (chars c.args.name.now)
    c.read_text.result c.read_text.ensures.risen c.read_text.ensures.same c.read_text.ensures.refused

pub returns-in-Err-Device-clause-crashes : goal.returns-in-Err-Device-clause-crashes
returns-in-Err-Device-clause-crashes g c h =
    let mid = c.load.new.disk in
    leaves-since g.D.Disk.model c.args.disk mid (leaves-meant g.D.Disk.model c.args.disk mid (c.load.ensures.any_moment h))
    (λ t image le is. g.met.D.Disk.counts_now mid t image h le is) _ (c.read_text.ensures.stays h)

pub returns-in-Err-Device-clause-told : goal.returns-in-Err-Device-clause-told
returns-in-Err-Device-clause-told g c =
    let read = c.read_text in
    alone-told g.E.Listener.hears c.args.errors.now read.new.errors read.result read.ensures.told read.ensures.untold

pub returns-in-Err-Device-clause-lasting : goal.returns-in-Err-Device-clause-lasting
returns-in-Err-Device-clause-lasting g c h =
    let failed = c.load.ensures.failures.device (c.in-Err-Device.is ∙ ap Err c.in-Err-Device.field-0-is) in
    let read = c.read_text in
    lasting-since g.D.Disk.model c.args.disk c.load.new.disk failed
    (λ h. inl (ap (λ (image : Image). image.store) (c.load.ensures.reads h))) string_bytes c.args.form
    (chars c.args.name.now) g.E.Listener.hears c.args.errors.now read.new.errors read.result read.ensures.risen read.ensures.told

pub returns-in-Err-Device-clause-quiet : goal.returns-in-Err-Device-clause-quiet
returns-in-Err-Device-clause-quiet g c h none =
    let failed = c.load.ensures.failures.device (c.in-Err-Device.is ∙ ap Err c.in-Err-Device.field-0-is) in
    let read = c.read_text in
    quiet-since g.D.Disk.model c.args.disk c.load.new.disk failed
    (λ h. inl (ap (λ (image : Image). image.store) (c.load.ensures.reads h))) g.E.Listener.hears c.args.errors.now
    read.new.errors read.result read.ensures.risen read.ensures.told read.ensures.untold

-- ---- there was no memory for the file

pub returns-in-Err-OutOfMemory-clause-crashes : goal.returns-in-Err-OutOfMemory-clause-crashes
returns-in-Err-OutOfMemory-clause-crashes g c h =
    leaves-meant g.D.Disk.model c.args.disk c.load.new.disk (c.load.ensures.any_moment h)
