use Rattle.conf_locks.proofs.{Going.{follows-then, follows-goes, steady-is, steady-remove}, Holding.{folder-kept, may-make}}
use Rattle.conf_locks.proofs.{Holding.may-remove-unmarked, Steps.{if-err, made-new, unmarked-there}}
use Rattle.conf_locks.proofs.taking.replace.Goals as goal

pub remove-requires : goal.remove-requires
remove-requires g c h =
    let model = g.S.LockSystem.model in
    let old = c.args.system.now in
    let s = c.is_there_marked.new.self in
    let goes = c.in_ok-is_there_marked.ensures.goes h in
    may-remove-unmarked model s (folder-kept model old s _ goes (steady-is goes.mid (model.locks s) goes.own.0) (c.requires h))
    (unmarked-there model old s c.in_ok-is_there_marked.field-0 goes c.if-branch.false)

pub returns-in_err-remove : goal.returns-in_err-remove
returns-in_err-remove g c h =
    let model = g.S.LockSystem.model in
    let old = c.args.system.now in
    let s = c.is_there_marked.new.self in
    let t = c.remove.new.self in
    record {
      follows = follows-then model old s t (follows-goes model old s _ (c.is_there_marked.ensures.goes h))
          (follows-goes model s t _ (c.remove.ensures.goes h));
      opened = if-err c.from_residual-in_err-remove.result _ c.from_residual-in_err-remove.ensures.0;
    }

pub make-requires-clause-none : goal.make-requires-clause-none
make-requires-clause-none g c h =
    let model = g.S.LockSystem.model in
    let old = c.args.system.now in
    let s = c.is_there_marked.new.self in
    let t = c.remove.new.self in
    let first = c.is_there_marked.ensures.goes h in
    let goes = c.remove.ensures.goes h in
    (folder-kept model s t _ goes (steady-remove (model.run s) goes.mid (model.locks t) goes.own)
    (folder-kept model old s _ first (steady-is first.mid (model.locks s) first.own.0) (c.requires h))).none

pub make-requires-clause-may : goal.make-requires-clause-may
make-requires-clause-may g c h =
    let model = g.S.LockSystem.model in
    let old = c.args.system.now in
    let s = c.is_there_marked.new.self in
    let t = c.remove.new.self in
    let first = c.is_there_marked.ensures.goes h in
    let goes = c.remove.ensures.goes h in
    may-make model t (folder-kept model s t _ goes (steady-remove (model.run s) goes.mid (model.locks t) goes.own)
    (folder-kept model old s _ first (steady-is first.mid (model.locks s) first.own.0) (c.requires h)))

pub returns-in_err-make : goal.returns-in_err-make
returns-in_err-make g c h =
    let model = g.S.LockSystem.model in
    let old = c.args.system.now in
    let s = c.is_there_marked.new.self in
    let t = c.remove.new.self in
    let u = c.make.new.self in
    record {
      follows = follows-then model old t u (follows-then model old s t
          (follows-goes model old s _ (c.is_there_marked.ensures.goes h)) (follows-goes model s t _ (c.remove.ensures.goes h)))
          (follows-goes model t u _ (c.make.ensures.goes h));
      opened = if-err c.from_residual-in_err-make.result _ c.from_residual-in_err-make.ensures.0;
    }

pub returns-in-Made : goal.returns-in-Made
returns-in-Made g c h =
    let model = g.S.LockSystem.model in
    let old = c.args.system.now in
    let s = c.is_there_marked.new.self in
    let t = c.remove.new.self in
    let u = c.make.new.self in
    let first = c.is_there_marked.ensures.goes h in
    let goes = c.remove.ensures.goes h in
    record {
      follows = follows-then model old t u (follows-then model old s t (follows-goes model old s _ first)
          (follows-goes model s t _ goes)) (follows-goes model t u _ (c.make.ensures.goes h));
      opened = made-new model old t u c.in_ok-make.field-0 (c.in_ok-make.ensures.goes h) c.in-Made.is
          (folder-kept model s t _ goes (steady-remove (model.run s) goes.mid (model.locks t) goes.own)
          (folder-kept model old s _ first (steady-is first.mid (model.locks s) first.own.0) (c.requires h)));
    }

pub returns-in-Exists : goal.returns-in-Exists
returns-in-Exists g c h =
    let model = g.S.LockSystem.model in
    let old = c.args.system.now in
    let s = c.is_there_marked.new.self in
    let t = c.remove.new.self in
    let u = c.make.new.self in
    record {
      follows = follows-then model old t u (follows-then model old s t
          (follows-goes model old s _ (c.is_there_marked.ensures.goes h)) (follows-goes model s t _ (c.remove.ensures.goes h)))
          (follows-goes model t u _ (c.make.ensures.goes h));
      opened = tt;
    }
