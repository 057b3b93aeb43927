use Rattle.std.proofs.Common.{◌≡◌, ℕ, Some, Bool}
use Rattle.conf_locks.proofs.{Going.{follows-goes, goes-weaker, none-after}, Told.{blamed-ok, told-failed}, Steps.{err-takes, takes-then}}
use Rattle.conf_locks.proofs.Steps.{marked-open}
use Rattle.conf_locks.proofs.taking.lock_opened.Goals as goal

pub returns-in_err-blame : goal.returns-in_err-blame
returns-in_err-blame g c h =
    let model = g.S.LockSystem.model in
    let s = c.args.system.now in
    let t = c.is_marked.new.self in
    err-takes model s t c.from_residual.result c.in_err-blame.field-0.0 c.from_residual.ensures.1
    (follows-goes model s t _ (c.is_marked.ensures.goes h))
    (told-failed model _ c.is_marked.result c.in_err-blame.field-0.0 s t c.in_err-blame.ensures (λ e. tt))

pub lock_marked-requires-clause-none : goal.lock_marked-requires-clause-none
lock_marked-requires-clause-none g c h =
    let goes = c.is_marked.ensures.goes h in
    none-after g.S.LockSystem.model c.args.system.now c.is_marked.new.self _ goes goes.own.0 (c.requires.none h)

pub lock_marked-requires-clause-marked : goal.lock_marked-requires-clause-marked
lock_marked-requires-clause-marked g c h =
    let model = g.S.LockSystem.model in
    let s = c.args.system.now in
    let t = c.is_marked.new.self in
    let b = c.in_ok-blame.field-0 in
    let goes = goes-weaker model s t _ (λ mid new. (new ≡ mid) × ((file : ℕ) → model.opened s ≡ Some file → b ≡ mid.marked file))
    (c.is_marked.ensures.goes h)
    (λ mid p. (
      p.0,
      blamed-ok c.is_marked.result b _ (λ (m : Bool). (file : ℕ) → model.opened s ≡ Some file → m ≡ mid.marked file)
          (λ _. Unit {0}) c.in_ok-blame.ensures p.1,
    )) in
    marked-open model s t b goes c.if-branch.true (c.requires.opened h) (c.is_marked.ensures.opened h)

pub returns-then-branch : goal.returns-then-branch
returns-then-branch g c h =
    let model = g.S.LockSystem.model in
    takes-then model c.args.system.now c.is_marked.new.self c.lock_marked.new.system c.lock_marked.result
    (follows-goes model c.args.system.now c.is_marked.new.self _ (c.is_marked.ensures.goes h)) (c.is_marked.ensures.changes h)
    (c.lock_marked.ensures h)

pub lock_anew-requires : goal.lock_anew-requires
lock_anew-requires g c h =
    let goes = c.is_marked.ensures.goes h in
    none-after g.S.LockSystem.model c.args.system.now c.is_marked.new.self _ goes goes.own.0 (c.requires.none h)

pub returns-else-branch : goal.returns-else-branch
returns-else-branch g c h =
    let model = g.S.LockSystem.model in
    takes-then model c.args.system.now c.is_marked.new.self c.lock_anew.new.system c.lock_anew.result
    (follows-goes model c.args.system.now c.is_marked.new.self _ (c.is_marked.ensures.goes h)) (c.is_marked.ensures.changes h)
    (c.lock_anew.ensures h)
