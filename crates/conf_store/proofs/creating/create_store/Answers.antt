use Rattle.std.proofs.Common.{◌∙◌, sym, Some}
use Rattle.conf_store.proofs.{Prelude.{IsImage, LeavesOnly-now, base_bytes, image_now}, StoreLemmas.durable-means}
use Rattle.conf_store.proofs.CreateLemmas.{creation-leaves, creation-reads}
use Rattle.conf_store.proofs.creating.create_store.Goals as goal

pub returns-in-Ok-write_base-clause-leaves : goal.returns-in-Ok-write_base-clause-leaves
returns-in-Ok-write_base-clause-leaves g c h =
    let d = g.D.Disk in
    let mid = c.find_no_store.new.disk in
    creation-leaves d.model c.args.disk mid c.write_base.new.disk (base_bytes c.args.state.now) (c.in-Ok.ensures.missing h)
    (c.write_base.ensures.leaves h) (LeavesOnly-now d.model c.args.disk mid (IsImage (d.model.folder c.args.disk))
    (λ t image le is. g.met.D.Disk.counts_now mid t image h le is) (c.find_no_store.ensures.any_moment h))
    (c.find_no_store.ensures.any_moment h)

pub returns-in-Err-Device-clause-leaves : goal.returns-in-Err-Device-clause-leaves
returns-in-Err-Device-clause-leaves g c h =
    let d = g.D.Disk in
    let mid = c.find_no_store.new.disk in
    creation-leaves d.model c.args.disk mid c.write_base.new.disk (base_bytes c.args.state.now) (c.in-Ok.ensures.missing h)
    (c.write_base.ensures.leaves h) (LeavesOnly-now d.model c.args.disk mid (IsImage (d.model.folder c.args.disk))
    (λ t image le is. g.met.D.Disk.counts_now mid t image h le is) (c.find_no_store.ensures.any_moment h))
    (c.find_no_store.ensures.any_moment h)

pub returns-in-Err-Device-clause-refused : goal.returns-in-Err-Device-clause-refused
returns-in-Err-Device-clause-refused g c h =
    let d = g.D.Disk in
    let new = c.write_base.new.disk in
    creation-reads d.model c.args.disk c.find_no_store.new.disk new (base_bytes c.args.state.now) (c.in-Ok.ensures.missing h)
    (c.write_base.ensures.leaves h) c.reading_is_an_image.ensures c.held_store_is_the_only_one.ensures.left (c.in-Ok.ensures.holds h)
    (λ t image le is. g.met.D.Disk.counts_now new t image h le is)

-- ---- what the new file means

pub returns-in-Ok-write_base-clause-now : goal.returns-in-Ok-write_base-clause-now
returns-in-Ok-write_base-clause-now g c h =
    durable-means c.held_store_is_left.ensures.synced (g.D.Disk.model.folder c.write_base.new.disk) c.args.state.now
    c.in-Ok-write_base.field-0 (c.in-Ok-write_base.ensures.durable h)

pub returns-in-Ok-write_base-clause-means : goal.returns-in-Ok-write_base-clause-means
returns-in-Ok-write_base-clause-means g c h =
    let new = g.D.Disk.model.folder c.write_base.new.disk in
    returns-in-Ok-write_base-clause-now g c h (image_now new) (c.reading_is_an_image.ensures new)

pub returns-in-Ok-write_base-clause-synced : goal.returns-in-Ok-write_base-clause-synced
returns-in-Ok-write_base-clause-synced g c h image is =
    let new = g.D.Disk.model.folder c.write_base.new.disk in
    let durable = c.in-Ok-write_base.ensures.durable h in
    c.held_store_is_left.ensures.synced new durable.bytes durable.holds image is
    ∙ sym (c.held_store_is_the_only_one.ensures.reads new (Some durable.bytes) durable.holds)
    ∙ c.in-Ok-write_base.ensures.reads h
