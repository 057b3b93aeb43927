-- The store was opened, or its file was read after the device failed.
use Rattle.std.{proofs.Common.{◌≡◌, ◌⊎◌, inl, refl, sym, subst, string_bytes}, specs.Prelude.IfOk}
use Rattle.conf_tools.proofs.{Prelude.{chars, LeavesOnly, MeantAtEntry, OpenFault}, ExportLemmas.{alone-told, lasting-since, leaves-since}}
use Rattle.conf_tools.{proofs.ExportLemmas.{opened-finds, quiet-since, refused-since, text-since}, specs.Exports.{HasNoText, HasText}}
use Rattle.conf_tools.specs.{Exports.{LastsOrTells, TellsExport, TellsReadAlone, disk_back}, Stores.CannotOpen}
use Rattle.conf_tools.proofs.exports.open_text.Goals as goal

pub returns-in-Err-default-Device-clause-ok : goal.returns-in-Err-default-Device-clause-ok
returns-in-Err-default-Device-clause-ok g c =
    let d = g.D.Disk in
    let failed = c.in-Err-default-Device in
    let cannot = subst (λ (fault : OpenFault). CannotOpen d.model c.args.disk failed.disk fault) failed.field-0-1-is
    failed.ensures.refused in
    text-since d.model c.args.disk failed.disk (cannot.cause refl) (λ h. cannot.old_or_base h) string_bytes c.args.form
    (chars c.args.name.now) c.read_text.result c.read_text.ensures.risen c.read_text.ensures.same c.read_text.ensures.ok

pub returns-in-Err-default-Device-clause-refused : goal.returns-in-Err-default-Device-clause-refused
returns-in-Err-default-Device-clause-refused g c =
    let d = g.D.Disk in
    let failed = c.in-Err-default-Device in
    let cannot = subst (λ (fault : OpenFault). CannotOpen d.model c.args.disk failed.disk fault) failed.field-0-1-is
    failed.ensures.refused in
    refused-since d.model c.args.disk failed.disk (cannot.cause refl) (λ h. cannot.old_or_base h)
    (chars c.args.name.now) c.read_text.result c.read_text.ensures.risen c.read_text.ensures.same c.read_text.ensures.refused

pub returns-in-Err-default-Device-clause-crashes : goal.returns-in-Err-default-Device-clause-crashes
returns-in-Err-default-Device-clause-crashes g c h =
    let d = g.D.Disk in
    let failed = c.in-Err-default-Device in
    let cannot = subst (λ (fault : OpenFault). CannotOpen d.model c.args.disk failed.disk fault) failed.field-0-1-is
    failed.ensures.refused in
    leaves-since d.model c.args.disk failed.disk (cannot.at_any_moment h)
    (λ t image le is. g.met.D.Disk.counts_now failed.disk t image h le is) _ (c.read_text.ensures.stays h)

pub returns-in-Err-default-Device-clause-told : goal.returns-in-Err-default-Device-clause-told
returns-in-Err-default-Device-clause-told g c =
    let hears = g.E.Listener.hears in
    let read = c.read_text in
    subst (λ (before : g.row.E.Denot). TellsExport hears before read.new.errors) c.in-Err-default-Device.ensures.untold
    (alone-told hears c.open_told.new.errors read.new.errors read.result read.ensures.told read.ensures.untold)

pub returns-in-Err-default-Device-clause-lasting : goal.returns-in-Err-default-Device-clause-lasting
returns-in-Err-default-Device-clause-lasting g c h =
    let d = g.D.Disk in
    let hears = g.E.Listener.hears in
    let read = c.read_text in
    let failed = c.in-Err-default-Device in
    let cannot = subst (λ (fault : OpenFault). CannotOpen d.model c.args.disk failed.disk fault) failed.field-0-1-is
    failed.ensures.refused in
    subst (λ (before : g.row.E.Denot). IfOk read.result (λ r. LastsOrTells hears d.model c.args.form c.args.disk r.0
    (chars c.args.name.now) (string_bytes r.1) before read.new.errors)) failed.ensures.untold
    (lasting-since d.model c.args.disk failed.disk (cannot.cause refl) (λ h. cannot.old_or_base h) string_bytes c.args.form
    (chars c.args.name.now) hears c.open_told.new.errors read.new.errors read.result read.ensures.risen read.ensures.told)

pub returns-in-Err-default-Device-clause-quiet : goal.returns-in-Err-default-Device-clause-quiet
returns-in-Err-default-Device-clause-quiet g c h none =
    let d = g.D.Disk in
    let hears = g.E.Listener.hears in
    let read = c.read_text in
    let failed = c.in-Err-default-Device in
    let cannot = subst (λ (fault : OpenFault). CannotOpen d.model c.args.disk failed.disk fault) failed.field-0-1-is
    failed.ensures.refused in
    subst (λ (before : g.row.E.Denot). (read.new.errors ≡ before) ⊎ TellsReadAlone hears (d.model.failure_count c.args.disk)
    (d.model.failure_count (disk_back read.result)) before read.new.errors) failed.ensures.untold
    (quiet-since d.model c.args.disk failed.disk (cannot.cause refl) (λ h. cannot.old_or_base h) hears c.open_told.new.errors
    read.new.errors read.result read.ensures.risen read.ensures.told read.ensures.untold)

pub returns-in-Ok-exported-clause-told : goal.returns-in-Ok-exported-clause-told
returns-in-Ok-exported-clause-told g c = inl c.open_told.ensures.told

pub returns-in-Err-exported-clause-told : goal.returns-in-Err-exported-clause-told
returns-in-Err-exported-clause-told g c = inl c.open_told.ensures.told

pub returns-in-Ok-exported-clause-lasting : goal.returns-in-Ok-exported-clause-lasting
returns-in-Ok-exported-clause-lasting g c h =
    let d = g.D.Disk in
    let text = c.in-Ok-exported.text in
    subst (λ (disk : g.row.D.Denot). LastsOrTells g.E.Listener.hears d.model c.args.form c.args.disk disk
    (chars c.args.name.now) (string_bytes text) c.args.errors.now c.open_told.new.errors) (sym c.close-disk.ensures)
    (inl (
      record {
        state = c.in-Ok.store.state;
        images = c.in-Ok.ensures.opens.images h;
        exports = c.in-Ok-exported.ensures.ok;
      },
      c.in-Ok.ensures.dropped h,
    ))

pub returns-in-Ok-exported-clause-quiet : goal.returns-in-Ok-exported-clause-quiet
returns-in-Ok-exported-clause-quiet g c h none = inl (c.open_told.ensures.quiet h none)

pub returns-in-Err-exported-clause-quiet : goal.returns-in-Err-exported-clause-quiet
returns-in-Err-exported-clause-quiet g c h none = inl (c.open_told.ensures.quiet h none)

pub returns-in-Ok-exported-clause-ok : goal.returns-in-Ok-exported-clause-ok
returns-in-Ok-exported-clause-ok g c =
    let d = g.D.Disk in
    let text = c.in-Ok-exported.text in
    subst (λ (disk : g.row.D.Denot). HasText d.model c.args.form c.args.disk disk (chars c.args.name.now)
    (string_bytes text)) (sym c.close-disk.ensures)
    (record {
      state = c.in-Ok.store.state;
      finds = opened-finds d.model c.reading_is_an_image.ensures c.args.disk c.in-Ok.store c.in-Ok.ensures.opens;
      exports = c.in-Ok-exported.ensures.ok;
    })

pub returns-in-Err-exported-clause-refused : goal.returns-in-Err-exported-clause-refused
returns-in-Err-exported-clause-refused g c =
    let d = g.D.Disk in
    let fault = c.in-Err-exported.fault in
    subst (λ (disk : g.row.D.Denot). HasNoText d.model c.args.disk disk (chars c.args.name.now) fault) (sym c.close-disk.ensures)
    (record {
      state = c.in-Ok.store.state;
      finds = opened-finds d.model c.reading_is_an_image.ensures c.args.disk c.in-Ok.store c.in-Ok.ensures.opens;
      why = c.in-Err-exported.ensures.refused;
    })

pub returns-in-Ok-exported-clause-crashes : goal.returns-in-Ok-exported-clause-crashes
returns-in-Ok-exported-clause-crashes g c h =
    let d = g.D.Disk in
    subst (λ (disk : g.row.D.Denot). LeavesOnly d.model c.args.disk disk
    (MeantAtEntry (d.model.folder c.args.disk))) (sym c.close-disk.ensures)
    (c.in-Ok.ensures.opens.at_any_moment h)

pub returns-in-Err-exported-clause-crashes : goal.returns-in-Err-exported-clause-crashes
returns-in-Err-exported-clause-crashes g c h =
    let d = g.D.Disk in
    subst (λ (disk : g.row.D.Denot). LeavesOnly d.model c.args.disk disk
    (MeantAtEntry (d.model.folder c.args.disk))) (sym c.close-disk.ensures)
    (c.in-Ok.ensures.opens.at_any_moment h)
