use Rattle.std.proofs.Common.{◌≡◌, ℕ, sym, subst}
use Rattle.conf_locks.{specs.{declared.taking.Origin.TheVariants.Made, Locks.HoldsNone}, proofs.Going.{follows-then, follows-goes}}
use Rattle.conf_locks.proofs.Steps.{told-later}
use Rattle.conf_locks.proofs.taking.take_locks.Goals as goal

pub returns-in-Ok : goal.returns-in-Ok
returns-in-Ok g c = record {
  held = λ h. (c.in-Ok.ensures h).told.0;
  made = λ h is. (let made : c.in-Ok.origin ≡ Made = cc in (c.in-Ok.ensures h).told.1 made);
  told = λ h. tt;
  none = λ h. tt;
  follows = λ h. (c.in-Ok.ensures h).follows;
}

pub returns-in-Err : goal.returns-in-Err
returns-in-Err g c =
    let model = g.S.LockSystem.model in
    let s = c.args.system.now in
    let t = c.try_taking.new.system in
    let u = c.let_go.new.self in
    record {
      held = λ h. tt;
      made = λ h is. cc;
      told = λ h. told-later model s t u c.in-Err.why (follows-goes model t u _ (c.let_go.ensures.goes h)) (c.let_go.ensures.changes h)
          (c.in-Err.ensures h).told;
      none = λ h. subst (λ (r : ℕ). HoldsNone r (model.locks u)) (sym (c.let_go.ensures.goes h).run) (c.let_go.ensures.goes h).own;
      follows = λ h. follows-then model s t u (c.in-Err.ensures h).follows (follows-goes model t u _ (c.let_go.ensures.goes h));
    }
