use Rattle.conf_locks.proofs.{Going.{follows-goes, goes-weaker, steady-is}, Holding.{folder-kept, opened-found}, Steps.{opens-then, if-err}}
use Rattle.conf_locks.specs.{declared.system.Opening.{Opening, TheVariants.Opened}, Models.IsOpened}
use Rattle.std.proofs.Common.{◌≡◌, subst}
use Rattle.conf_locks.proofs.taking.open_found.Goals as goal

pub open-requires : goal.open-requires
open-requires g c h = (c.requires h).none

pub returns-in_err-open : goal.returns-in_err-open
returns-in_err-open g c h = record {
  follows = follows-goes g.S.LockSystem.model c.args.system.now c.open.new.self _ (c.open.ensures.goes h);
  opened = if-err c.from_residual.result _ c.from_residual.ensures.0;
}

pub returns-in-Opened : goal.returns-in-Opened
returns-in-Opened g c h =
    let model = g.S.LockSystem.model in
    let s = c.args.system.now in
    let t = c.open.new.self in
    let goes = c.in_ok-open.ensures.goes h in
    let opened = goes-weaker model s t _ (λ mid new. (new ≡ mid) × IsOpened Opened mid (model.opened t)) goes
    (λ mid p. (p.0, subst (λ (o : Opening). IsOpened o mid (model.opened t)) c.in-Opened.is p.1)) in
    record {
      follows = follows-goes model s t _ goes;
      opened = opened-found model s s t opened
          (folder-kept model s t _ goes (steady-is goes.mid (model.locks t) goes.own.0) (c.requires h)) (c.open.ensures.changes h);
    }

pub returns-in-Missing : goal.returns-in-Missing
returns-in-Missing g c h = record {
  follows = follows-goes g.S.LockSystem.model c.args.system.now c.open.new.self _ (c.open.ensures.goes h);
  opened = tt;
}

pub replace-requires : goal.replace-requires
replace-requires g c h =
    let model = g.S.LockSystem.model in
    let goes = c.open.ensures.goes h in
    folder-kept model c.args.system.now c.open.new.self _ goes (steady-is goes.mid (model.locks c.open.new.self) goes.own.0) (c.requires h)

pub returns-in-Refused : goal.returns-in-Refused
returns-in-Refused g c h =
    let model = g.S.LockSystem.model in
    opens-then model c.args.system.now c.open.new.self c.replace.new.system c.replace.result
    (follows-goes model c.args.system.now c.open.new.self _ (c.open.ensures.goes h)) (c.open.ensures.changes h) (c.replace.ensures h)
