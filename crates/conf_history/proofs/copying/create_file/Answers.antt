-- The file is made where there was none, and a crash leaves an old store or all of it.
use Rattle.std.proofs.Common.{ap}
use Rattle.{conf_store.proofs.{CreateLemmas.{creation-leaves, creation-reads}, Prelude.LeavesOnly-now}, conf_history.specs.Prelude.Image}
use Rattle.conf_history.specs.Prelude.{IsImage}
use Rattle.conf_history.proofs.copying.create_file.Goals as goal

pub returns-in-Ok-replace_store-clause-made : goal.returns-in-Ok-replace_store-clause-made
returns-in-Ok-replace_store-clause-made g c h = record {
  missing = c.in-Ok.ensures.missing h;
  file = ap (λ (image : Image). image.store) (c.in-Ok-replace_store.ensures.reads h);
  left = c.held_store_is_left.ensures.synced (g.D.Disk.model.folder c.replace_store.new.disk) c.args.bytes.now
      (c.in-Ok-replace_store.ensures.holds h);
}

pub returns-in-Ok-replace_store-clause-leaves : goal.returns-in-Ok-replace_store-clause-leaves
returns-in-Ok-replace_store-clause-leaves g c h =
    let d = g.D.Disk in
    let mid = c.find_none.new.disk in
    creation-leaves d.model c.args.disk.now mid c.replace_store.new.disk c.args.bytes.now (c.in-Ok.ensures.missing h)
    (c.replace_store.ensures.any_moment h) (LeavesOnly-now d.model c.args.disk.now mid (IsImage (d.model.folder c.args.disk.now))
    (λ t image le is. g.met.D.Disk.counts_now mid t image h le is) (c.find_none.ensures.any_moment h))
    (c.find_none.ensures.any_moment h)

pub returns-in-Err-replace_store-clause-leaves : goal.returns-in-Err-replace_store-clause-leaves
returns-in-Err-replace_store-clause-leaves g c h =
    let d = g.D.Disk in
    let mid = c.find_none.new.disk in
    creation-leaves d.model c.args.disk.now mid c.replace_store.new.disk c.args.bytes.now (c.in-Ok.ensures.missing h)
    (c.replace_store.ensures.any_moment h) (LeavesOnly-now d.model c.args.disk.now mid (IsImage (d.model.folder c.args.disk.now))
    (λ t image le is. g.met.D.Disk.counts_now mid t image h le is) (c.find_none.ensures.any_moment h))
    (c.find_none.ensures.any_moment h)

pub returns-in-Err-replace_store-clause-refused : goal.returns-in-Err-replace_store-clause-refused
returns-in-Err-replace_store-clause-refused g c h =
    let d = g.D.Disk in
    let new = c.replace_store.new.disk in
    creation-reads d.model c.args.disk.now c.find_none.new.disk new c.args.bytes.now (c.in-Ok.ensures.missing h)
    (c.replace_store.ensures.any_moment h) c.reading_is_an_image.ensures c.held_store_is_the_only_one.ensures.left (c.in-Ok.ensures.holds h)
    (λ t image le is. g.met.D.Disk.counts_now new t image h le is)
