-- Opening made what it says, and nothing waits.
use Rattle.std.{proofs.Common.{◌+◌, length, ap, subst}, specs.Prelude.option_map}
use Rattle.{conf_store.specs.Staged.Staged, conf_tools.{specs.Dropped.TellsCount, proofs.DroppedLemmas.any_told}}
use Rattle.conf_tools.proofs.dropped.open_told.Goals as goal

pub returns-in-Ok-clause-opens : goal.returns-in-Ok-clause-opens
returns-in-Ok-clause-opens g c =
    let opened = c.in-Ok.ensures in
    record {
      no_reopen = opened.no_reopen;
      no_checkpoint = opened.no_checkpoint;
      opens = λ h. record {
        means = opened.means h;
        records = c.in-Ok.opened.commands;
        dropped = c.in-Ok.opened.dropped;
        recovers = opened.found h;
        reads = opened.reads h;
        size = opened.size h;
        format = opened.format_now h;
        no_checkpoint = ap (option_map (λ (s : Staged). s.written + length s.left)) opened.no_checkpoint;
      };
      at_any_moment = λ h. opened.any_moment h;
      flushed = λ h. opened.flushed h;
      images = λ h. opened.now h;
      risen = opened.risen;
    }

pub returns-in-Ok-clause-told : goal.returns-in-Ok-clause-told
returns-in-Ok-clause-told g c =
    any_told g.E.Listener.hears c.args.errors.now c.tell_dropped.new.errors c.in-Ok.opened.dropped c.tell_dropped.ensures

pub returns-in-Ok-clause-dropped : goal.returns-in-Ok-clause-dropped
returns-in-Ok-clause-dropped g c h = record {
  s = c.in-Ok.store.state;
  records = c.in-Ok.opened.commands;
  dropped = c.in-Ok.opened.dropped;
  recovers = c.in-Ok.ensures.found h;
  tells = c.tell_dropped.ensures;
}

pub returns-in-Ok-clause-quiet : goal.returns-in-Ok-clause-quiet
returns-in-Ok-clause-quiet g c h none =
    subst (λ count. TellsCount g.E.Listener.hears count c.args.errors.now c.tell_dropped.new.errors)
    (none c.in-Ok.store.state c.in-Ok.opened.commands c.in-Ok.opened.dropped (c.in-Ok.ensures.found h))
    c.tell_dropped.ensures
