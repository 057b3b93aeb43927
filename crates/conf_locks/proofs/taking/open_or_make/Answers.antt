use Rattle.conf_locks.proofs.{Going.{follows-goes, steady-is}, Holding.{folder-kept, may-make}, Steps.{opens-then, if-err, made-new}}
use Rattle.conf_locks.proofs.Steps.{exists-same, exists-count}
use Rattle.conf_locks.proofs.taking.open_or_make.Goals as goal

pub make-requires-clause-none : goal.make-requires-clause-none
make-requires-clause-none g c h = (c.requires h).none

pub make-requires-clause-may : goal.make-requires-clause-may
make-requires-clause-may g c h = may-make g.S.LockSystem.model c.args.system.now (c.requires h)

pub returns-in_err-make : goal.returns-in_err-make
returns-in_err-make g c h = record {
  follows = follows-goes g.S.LockSystem.model c.args.system.now c.make.new.self _ (c.make.ensures.goes h);
  opened = if-err c.from_residual.result _ c.from_residual.ensures.0;
}

pub returns-in-Made : goal.returns-in-Made
returns-in-Made g c h =
    let model = g.S.LockSystem.model in
    let s = c.args.system.now in
    let t = c.make.new.self in
    record {
      follows = follows-goes model s t _ (c.make.ensures.goes h);
      opened = made-new model s s t c.in_ok-make.field-0 (c.in_ok-make.ensures.goes h) c.in-Made.is (c.requires h);
    }

pub open_found-requires : goal.open_found-requires
open_found-requires g c h =
    let model = g.S.LockSystem.model in
    let s = c.args.system.now in
    let t = c.make.new.self in
    let goes = c.in_ok-make.ensures.goes h in
    folder-kept model s t _ goes
    (steady-is goes.mid (model.locks t) (exists-same model s t c.in_ok-make.field-0 goes c.in-Exists.is)) (c.requires h)

pub returns-in-Exists : goal.returns-in-Exists
returns-in-Exists g c h =
    let model = g.S.LockSystem.model in
    let s = c.args.system.now in
    let t = c.make.new.self in
    opens-then model s t c.open_found.new.system c.open_found.result (follows-goes model s t _ (c.make.ensures.goes h))
    (exists-count c.in_ok-make.field-0 (model.changes s) (model.changes t) (c.in_ok-make.ensures.changes h) c.in-Exists.is)
    (c.open_found.ensures h)
