-- The change was made, or refused, on the store that was opened, whose disk is handed back.
use Rattle.std.proofs.Common.{true, false, Err, ap, sym, subst}
use Rattle.conf_tools.proofs.{Prelude.{HasFailed, AllImagesMean, failed-later}, ChangeLemmas.{keeps-made, keeps-refused, never-reopen}}
use Rattle.{conf_tools.specs.Changes.{KeepsChange, ReadsChanged}, conf_store.specs.Changing.store_file}
use Rattle.conf_tools.proofs.changes.change_store.Goals as goal

pub returns-in-Ok-made-clause-made : goal.returns-in-Ok-made-clause-made
returns-in-Ok-made-clause-made g c =
    let d = g.D.Disk in
    let closed = c.make-made.new.store in
    record {
      opened = c.in-Ok.store;
      opens = c.in-Ok.ensures.opens;
      met = c.in-Ok-check.ensures.ok;
      closed = closed;
      makes = c.in-Ok-made.ensures.ok;
      back = c.close-disk.ensures;
      reads = λ h. subst (λ (disk : g.row.D.Denot). ReadsChanged c.in-Ok.store c.args.change
          (store_file d.model c.in-Ok.store.disk) (store_file d.model disk)) (sym c.close-disk.ensures)
          (c.in-Ok-made.ensures.reads h c.in-Ok.ensures.opens.no_reopen);
      images = λ h. subst (λ (disk : g.row.D.Denot). AllImagesMean (d.model.folder disk) closed.state)
          (sym c.close-disk.ensures) (c.in-Ok-made.ensures.now h);
    }

pub returns-in-Ok-made-clause-crashes : goal.returns-in-Ok-made-clause-crashes
returns-in-Ok-made-clause-crashes g c h =
    let d = g.D.Disk in
    let opened = c.in-Ok.store in
    let closed = c.make-made.new.store in
    let opens = c.in-Ok.ensures.opens in
    subst (λ (disk : g.row.D.Denot). KeepsChange d.model c.args.disk c.args.change disk true) (sym c.close-disk.ensures)
    (keeps-made d.model c.args.disk opened closed opens c.args.change (c.make-made.ensures.any_moment h opens.no_reopen (opens.flushed h))
    c.steps_are_counted_or_refused.ensures.room c.in-Ok-made.ensures.ok h (c.in-Ok-made.ensures.now h))

pub returns-in-Err-made-clause-refused : goal.returns-in-Err-made-clause-refused
returns-in-Err-made-clause-refused g c =
    let count = g.D.Disk.model.failure_count in
    let opened = c.in-Ok.store in
    let opens = c.in-Ok.ensures.opens in
    let closed = c.make-made.new.store in
    record {
      opened = opened;
      opens = opens;
      met = c.in-Ok-check.ensures.ok;
      closed = closed;
      refuses = c.in-Err-made.ensures.refused;
      not_reopen = never-reopen opened.reopen c.in-Err-made.fault opens.no_reopen (λ is. c.in-Err-made.ensures.reopen.0 (ap Err is));
      back = c.close-disk.ensures;
      same = c.in-Err-made.ensures.unchanged;
      cause = λ is. subst (λ (disk : g.row.D.Denot). HasFailed (count c.args.disk) (count disk)) (sym c.close-disk.ensures)
          (failed-later (count c.args.disk) (count opened.disk)
          (count closed.disk) opens.risen c.make-made.ensures.risen (c.in-Err-made.ensures.cause (ap Err is)));
    }

pub returns-in-Err-made-clause-crashes : goal.returns-in-Err-made-clause-crashes
returns-in-Err-made-clause-crashes g c h =
    let d = g.D.Disk in
    let opened = c.in-Ok.store in
    let closed = c.make-made.new.store in
    let opens = c.in-Ok.ensures.opens in
    subst (λ (disk : g.row.D.Denot). KeepsChange d.model c.args.disk c.args.change disk false) (sym c.close-disk.ensures)
    (keeps-refused d.model c.args.disk opened closed opens c.args.change
    (c.make-made.ensures.any_moment h opens.no_reopen (opens.flushed h))
    c.steps_are_counted_or_refused.ensures.room
    (λ t image le is. g.met.D.Disk.counts_now closed.disk t image h le is) h c.in-Err-made.fault
    c.in-Err-made.ensures.refused c.in-Err-made.ensures.unchanged)
