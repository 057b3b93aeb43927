use Rattle.std.{specs.Prelude.is_some, proofs.Common.{refl, ap}}
use Rattle.conf_locks.specs.{declared.taking.LockPlace.TheVariants.{File, Folder}, Locks.{LockFile, LockFolder}, Models.Asks}
use Rattle.conf_locks.{specs.Taking.HasOpened, proofs.{Going.{follows-none, follows-then, follows-goes, goes-weaker}, Told.blamed-ok}}
use Rattle.conf_locks.proofs.{Told.{taken-ok, told-failed, told-asked}, Holding.{folder-locked, opened-then, may-lock-alone, not-kept-out}}
use Rattle.conf_locks.proofs.{Holding.{both-locked, may-mark, both-marked, both-taken, may-remove-both}, Steps.err-takes}
use Rattle.conf_locks.proofs.taking.lock_anew.Goals as goal

pub try_lock_folder-requires : goal.try_lock_folder-requires
try_lock_folder-requires g c h = c.requires h

pub returns-in_err-taken : goal.returns-in_err-taken
returns-in_err-taken g c h =
    let model = g.S.LockSystem.model in
    let s = c.args.system.now in
    let t = c.try_lock_folder.new.self in
    let goes = c.try_lock_folder.ensures.goes h in
    err-takes model s t c.from_residual.result c.in_err-taken.field-0.0 c.from_residual.ensures.1 (follows-goes model s t _ goes)
    (told-asked model Folder _ c.try_lock_folder.result c.in_err-taken.field-0.0 LockFolder s s t c.in_err-taken.ensures
    (follows-none model s) goes (c.try_lock_folder.ensures.changes h) (λ kept. refl) (λ kept. kept) (λ e. tt))

pub open_or_make-requires : goal.open_or_make-requires
open_or_make-requires g c h =
    folder-locked g.S.LockSystem.model c.args.system.now c.try_lock_folder.new.self c.try_lock_folder.result (c.requires h)
    (c.try_lock_folder.ensures.goes h) (taken-ok Folder _ c.try_lock_folder.result c.in_ok-taken.ensures)

pub returns-in_err-origin : goal.returns-in_err-origin
returns-in_err-origin g c h =
    let model = g.S.LockSystem.model in
    let s = c.args.system.now in
    let t = c.try_lock_folder.new.self in
    let u = c.open_or_make.new.system in
    err-takes model s u c.from_residual-in_err-origin.result c.in_err-origin.field-0.0 c.from_residual-in_err-origin.ensures.1
    (follows-then model s t u (follows-goes model s t _ (c.try_lock_folder.ensures.goes h)) (c.open_or_make.ensures h).follows)
    (told-failed model _ c.open_or_make.result c.in_err-origin.field-0.0 s u c.in_err-origin.ensures (λ e. tt))

pub try_lock_file-requires-clause-opened : goal.try_lock_file-requires-clause-opened
try_lock_file-requires-clause-opened g c h =
    let model = g.S.LockSystem.model in
    let t = c.try_lock_folder.new.self in
    let u = c.open_or_make.new.system in
    let opened = blamed-ok c.open_or_make.result c.in_ok-origin.origin _ (λ _. HasOpened model t u) (λ _. Unit {0})
    c.in_ok-origin.ensures (c.open_or_make.ensures h).opened in
    ap is_some opened.opened

pub try_lock_file-requires-clause-none : goal.try_lock_file-requires-clause-none
try_lock_file-requires-clause-none g c h =
    let model = g.S.LockSystem.model in
    let t = c.try_lock_folder.new.self in
    let u = c.open_or_make.new.system in
    let opened = blamed-ok c.open_or_make.result c.in_ok-origin.origin _ (λ _. HasOpened model t u) (λ _. Unit {0})
    c.in_ok-origin.ensures (c.open_or_make.ensures h).opened in
    opened.folder.none

pub try_lock_file-requires-clause-may : goal.try_lock_file-requires-clause-may
try_lock_file-requires-clause-may g c h = λ file is.
    (let model = g.S.LockSystem.model in
    let t = c.try_lock_folder.new.self in
    let u = c.open_or_make.new.system in
    let opened = blamed-ok c.open_or_make.result c.in_ok-origin.origin _ (λ _. HasOpened model t u) (λ _. Unit {0})
    c.in_ok-origin.ensures (c.open_or_make.ensures h).opened in
    may-lock-alone model u opened.folder file)

pub returns-in_err-taken-2 : goal.returns-in_err-taken-2
returns-in_err-taken-2 g c h =
    let model = g.S.LockSystem.model in
    let s = c.args.system.now in
    let t = c.try_lock_folder.new.self in
    let u = c.open_or_make.new.system in
    let v = c.try_lock_file.new.self in
    let opened = opened-then model s t u (c.try_lock_folder.ensures.changes h)
    (blamed-ok c.open_or_make.result c.in_ok-origin.origin _ (λ _. HasOpened model t u) (λ _. Unit {0})
    c.in_ok-origin.ensures (c.open_or_make.ensures h).opened) in
    let follows = follows-then model s t u (follows-goes model s t _ (c.try_lock_folder.ensures.goes h))
    (c.open_or_make.ensures h).follows in
    let goes = goes-weaker model u v _ (Asks (model.run u) (LockFile opened.file) c.try_lock_file.result) (c.try_lock_file.ensures.goes h)
    (λ mid p. p opened.file opened.opened) in
    err-takes model s v c.from_residual-in_err-taken-2.result c.in_err-taken-2.field-0.0 c.from_residual-in_err-taken-2.ensures.1
    (follows-then model s u v follows (follows-goes model u v _ goes))
    (told-asked model File _ c.try_lock_file.result c.in_err-taken-2.field-0.0 (LockFile opened.file) s u v c.in_err-taken-2.ensures
    follows goes (c.try_lock_file.ensures.changes h) (not-kept-out model s u opened goes.mid goes.others) (λ kept. (opened.file, kept))
    (λ e. tt))

pub mark-requires : goal.mark-requires
mark-requires g c h = λ file is.
    (let model = g.S.LockSystem.model in
    let t = c.try_lock_folder.new.self in
    let u = c.open_or_make.new.system in
    let v = c.try_lock_file.new.self in
    let opened = blamed-ok c.open_or_make.result c.in_ok-origin.origin _ (λ _. HasOpened model t u) (λ _. Unit {0})
    c.in_ok-origin.ensures (c.open_or_make.ensures h).opened in
    may-mark model v (both-locked model t u v c.try_lock_file.result opened (c.try_lock_file.ensures.opened h)
    (c.try_lock_file.ensures.goes h) (taken-ok File _ c.try_lock_file.result c.in_ok-taken-2.ensures)) file)

pub returns-in_err-blame : goal.returns-in_err-blame
returns-in_err-blame g c h =
    let model = g.S.LockSystem.model in
    let s = c.args.system.now in
    let t = c.try_lock_folder.new.self in
    let u = c.open_or_make.new.system in
    let v = c.try_lock_file.new.self in
    let w = c.mark.new.self in
    let follows = follows-then model s t u (follows-goes model s t _ (c.try_lock_folder.ensures.goes h))
    (c.open_or_make.ensures h).follows in
    err-takes model s w c.from_residual-in_err-blame.result c.in_err-blame.field-0.0 c.from_residual-in_err-blame.ensures.1
    (follows-then model s v w (follows-then model s u v follows (follows-goes model u v _ (c.try_lock_file.ensures.goes h)))
    (follows-goes model v w _ (c.mark.ensures.goes h)))
    (told-failed model _ c.mark.result c.in_err-blame.field-0.0 s w c.in_err-blame.ensures (λ e. tt))

pub returns : goal.returns
returns g c h =
    let model = g.S.LockSystem.model in
    let s = c.args.system.now in
    let t = c.try_lock_folder.new.self in
    let u = c.open_or_make.new.system in
    let v = c.try_lock_file.new.self in
    let w = c.mark.new.self in
    let opened = blamed-ok c.open_or_make.result c.in_ok-origin.origin _ (λ _. HasOpened model t u) (λ _. Unit {0})
    c.in_ok-origin.ensures (c.open_or_make.ensures h).opened in
    let both = both-marked model v w (both-locked model t u v c.try_lock_file.result opened (c.try_lock_file.ensures.opened h)
    (c.try_lock_file.ensures.goes h) (taken-ok File _ c.try_lock_file.result c.in_ok-taken-2.ensures))
    (c.mark.ensures.opened h) (c.mark.ensures.goes h) in
    let follows = follows-then model s t u (follows-goes model s t _ (c.try_lock_folder.ensures.goes h))
    (c.open_or_make.ensures h).follows in
    record {
      follows = follows-then model s v w (follows-then model s u v follows (follows-goes model u v _ (c.try_lock_file.ensures.goes h)))
          (follows-goes model v w _ (c.mark.ensures.goes h));
      told = (both-taken model w both, λ made. may-remove-both model w both);
    }
