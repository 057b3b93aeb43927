use Rattle.std.proofs.Common.{subst}
use Rattle.conf_locks.{specs.{declared.system.Opening.Opening, Models.IsOpened}, proofs.{Going.{follows-goes, none-after}, Told.blamed-ok}}
use Rattle.conf_locks.proofs.{Told.told-failed, Steps.{err-takes, takes-then}}
use Rattle.conf_locks.proofs.taking.try_taking.Goals as goal

pub open-requires : goal.open-requires
open-requires g c h = (c.requires h).file

pub returns-in_err-blame : goal.returns-in_err-blame
returns-in_err-blame g c h =
    let model = g.S.LockSystem.model in
    let s = c.args.system.now in
    let t = c.open.new.self in
    err-takes model s t c.from_residual.result c.in_err-blame.field-0.0 c.from_residual.ensures.1
    (follows-goes model s t _ (c.open.ensures.goes h))
    (told-failed model _ c.open.result c.in_err-blame.field-0.0 s t c.in_err-blame.ensures (λ e. tt))

pub lock_opened-requires-clause-none : goal.lock_opened-requires-clause-none
lock_opened-requires-clause-none g c h =
    let goes = c.open.ensures.goes h in
    none-after g.S.LockSystem.model c.args.system.now c.open.new.self _ goes goes.own.0 (c.requires h)

pub lock_opened-requires-clause-opened : goal.lock_opened-requires-clause-opened
lock_opened-requires-clause-opened g c h =
    let model = g.S.LockSystem.model in
    let t = c.open.new.self in
    let goes = c.open.ensures.goes h in
    let is = blamed-ok c.open.result c.in_ok-blame.field-0 _ (λ (o : Opening). IsOpened o goes.mid (model.opened t)) (λ _. Unit {0})
    c.in_ok-blame.ensures goes.own.1 in
    (subst (λ (o : Opening). IsOpened o goes.mid (model.opened t)) c.in-Opened.is is).0

pub returns-in-Opened : goal.returns-in-Opened
returns-in-Opened g c h =
    let model = g.S.LockSystem.model in
    takes-then model c.args.system.now c.open.new.self c.lock_opened.new.system c.lock_opened.result
    (follows-goes model c.args.system.now c.open.new.self _ (c.open.ensures.goes h)) (c.open.ensures.changes h) (c.lock_opened.ensures h)

pub lock_anew-requires : goal.lock_anew-requires
lock_anew-requires g c h =
    let goes = c.open.ensures.goes h in
    none-after g.S.LockSystem.model c.args.system.now c.open.new.self _ goes goes.own.0 (c.requires h)

pub returns-in_default : goal.returns-in_default
returns-in_default g c h =
    let model = g.S.LockSystem.model in
    takes-then model c.args.system.now c.open.new.self c.lock_anew.new.system c.lock_anew.result
    (follows-goes model c.args.system.now c.open.new.self _ (c.open.ensures.goes h)) (c.open.ensures.changes h) (c.lock_anew.ensures h)
