use Rattle.std.{specs.Prelude.is_some, proofs.Common.{◌≡◌, refl, ap}}
use Rattle.conf_locks.{specs.{declared.taking.LockPlace.TheVariants.File, Locks.LockFile, Models.Asks}, proofs.Going.follows-none}
use Rattle.conf_locks.proofs.{Going.{follows-then, follows-goes, goes-weaker}, Told.{blamed-ok, taken-ok, told-failed, told-asked}}
use Rattle.conf_locks.proofs.{Holding.{may-lock-marked, locked-marked, alone-locked, shared-lock, found-lock}, Steps.err-takes}
use Rattle.conf_locks.proofs.taking.lock_marked.Goals as goal

pub try_lock_file-requires-clause-opened : goal.try_lock_file-requires-clause-opened
try_lock_file-requires-clause-opened g c h = ap is_some (c.requires.marked h).opened

pub try_lock_file-requires-clause-none : goal.try_lock_file-requires-clause-none
try_lock_file-requires-clause-none g c h = (c.requires.none h).file

pub try_lock_file-requires-clause-may : goal.try_lock_file-requires-clause-may
try_lock_file-requires-clause-may g c h = may-lock-marked g.S.LockSystem.model c.args.system.now (c.requires.marked h)

pub returns-in_err-taken : goal.returns-in_err-taken
returns-in_err-taken g c h =
    let model = g.S.LockSystem.model in
    let s = c.args.system.now in
    let t = c.try_lock_file.new.self in
    let has = c.requires.marked h in
    let goes = goes-weaker model s t _ (Asks (model.run s) (LockFile has.file) c.try_lock_file.result) (c.try_lock_file.ensures.goes h)
    (λ mid p. p has.file has.opened) in
    err-takes model s t c.from_residual.result c.in_err-taken.field-0.0 c.from_residual.ensures.1 (follows-goes model s t _ goes)
    (told-asked model File _ c.try_lock_file.result c.in_err-taken.field-0.0 (LockFile has.file) s s t c.in_err-taken.ensures
    (follows-none model s) goes (c.try_lock_file.ensures.changes h) (λ kept. refl) (λ kept. (has.file, kept)) (λ e. tt))

pub try_share_folder-requires : goal.try_share_folder-requires
try_share_folder-requires g c h =
    let model = g.S.LockSystem.model in
    let s = c.args.system.now in
    let t = c.try_lock_file.new.self in
    let has = c.requires.marked h in
    let goes = goes-weaker model s t _ (Asks (model.run s) (LockFile has.file) c.try_lock_file.result) (c.try_lock_file.ensures.goes h)
    (λ mid p. p has.file has.opened) in
    alone-locked model s t c.try_lock_file.result has.file (c.requires.none h) goes

pub returns-in_err-blame : goal.returns-in_err-blame
returns-in_err-blame g c h =
    let model = g.S.LockSystem.model in
    let s = c.args.system.now in
    let t = c.try_lock_file.new.self in
    let u = c.try_share_folder.new.self in
    err-takes model s u c.from_residual-in_err-blame.result c.in_err-blame.field-0.0 c.from_residual-in_err-blame.ensures.1
    (follows-then model s t u (follows-goes model s t _ (c.try_lock_file.ensures.goes h))
    (follows-goes model t u _ (c.try_share_folder.ensures.goes h)))
    (told-failed model _ c.try_share_folder.result c.in_err-blame.field-0.0 s u c.in_err-blame.ensures (λ e. tt))

pub returns-in_err-blame-2 : goal.returns-in_err-blame-2
returns-in_err-blame-2 g c h =
    let model = g.S.LockSystem.model in
    let s = c.args.system.now in
    let t = c.try_lock_file.new.self in
    let u = c.try_share_folder.new.self in
    let v = c.find_in_place.new.self in
    err-takes model s v c.from_residual-in_err-blame-2.result c.in_err-blame-2.field-0.0 c.from_residual-in_err-blame-2.ensures.1
    (follows-then model s u v (follows-then model s t u (follows-goes model s t _ (c.try_lock_file.ensures.goes h))
    (follows-goes model t u _ (c.try_share_folder.ensures.goes h))) (follows-goes model u v _ (c.find_in_place.ensures.goes h)))
    (told-failed model _ c.find_in_place.result c.in_err-blame-2.field-0.0 s v c.in_err-blame-2.ensures (λ e. tt))

pub returns : goal.returns
returns g c h =
    let model = g.S.LockSystem.model in
    let s = c.args.system.now in
    let t = c.try_lock_file.new.self in
    let u = c.try_share_folder.new.self in
    let v = c.find_in_place.new.self in
    let lock = locked-marked model s t c.try_lock_file.result (c.requires.marked h) (c.try_lock_file.ensures.opened h)
    (c.try_lock_file.ensures.goes h) (taken-ok File _ c.try_lock_file.result c.in_ok-taken.ensures) in
    let shared = shared-lock model t u c.try_share_folder.result lock (c.try_share_folder.ensures.opened h)
    (c.try_share_folder.ensures.goes h) in
    let found = goes-weaker model u v _ (λ mid new. (new ≡ mid) × (mid.path ≡ model.opened u)) (c.find_in_place.ensures.goes h)
    (λ mid p. (p.0, blamed-ok c.find_in_place.result _ _ (λ _. mid.path ≡ model.opened u) (λ _. Unit {0}) c.in_ok-blame-2.ensures p.1)) in
    record {
      follows = follows-then model s u v (follows-then model s t u (follows-goes model s t _ (c.try_lock_file.ensures.goes h))
          (follows-goes model t u _ (c.try_share_folder.ensures.goes h))) (follows-goes model u v _ (c.find_in_place.ensures.goes h));
      told = (found-lock model u v shared (c.find_in_place.ensures.opened h) found, λ made. cc);
    }
