-- No call reads the note by which a run goes.
use Rattle.std.proofs.Common.{◌≡◌, refl, ap, ℕ, zero, suc, take, Option, Some, None}
use Rattle.conf_system.specs.{declared.system.FileName.{FileName, TheVariants.{Store, Next, Copy}}, Machine.{Version, Held, Machine, Call}}
use Rattle.conf_system.specs.Machine.{CreateNext, CreateCopy, Write, WriteRest, Sync, RenameNext, LinkNext, UnlinkNext, PlaceCopy}
use Rattle.conf_system.specs.Machine.{UnlinkCopy, SyncFolder, WriteNote, SyncNote, with_file, with_version, with_copy, with_pending, synced}
use Rattle.{conf_system.specs.Machine.{failed_sync, replaced, after, failing}, test_system.specs.Replay.{Entry, Called, NoteRead}}
use Rattle.test_system.specs.Replay.{NoteUnread, bare, machine_made}

file-bare : (m : Machine) (place : Option ℕ) (change : Held → Held)
    → bare (with_file (bare m) place change) ≡ bare (with_file m place change)
file-bare m None change = refl
file-bare m (Some id) change = refl

version-bare : (m : Machine) (name : FileName) (change : Version → Version)
    → bare (with_version (bare m) name change) ≡ bare (with_version m name change)
version-bare m Store change = file-bare m m.now.store (λ file. record file { now = change file.now })
version-bare m Next change = file-bare m m.now.next (λ file. record file { now = change file.now })
version-bare m Copy change = refl

place-bare : (m : Machine) → bare (after PlaceCopy (bare m)) ≡ bare (after PlaceCopy m)
place-bare m = ap (λ (x : Machine). with_copy x None) (file-bare m m.now.store (replaced m.copy))

after-bare : (call : Call) (m : Machine) → bare (after call (bare m)) ≡ bare (after call m)
after-bare CreateNext m = refl
after-bare CreateCopy m = refl
after-bare (Write name bytes) m = version-bare m name (with_pending bytes)
after-bare (WriteRest name bytes) m = version-bare m name (with_pending bytes)
after-bare (Sync name) m = version-bare m name synced
after-bare RenameNext m = refl
after-bare LinkNext m = refl
after-bare UnlinkNext m = refl
after-bare PlaceCopy m = place-bare m
after-bare UnlinkCopy m = refl
after-bare SyncFolder m = refl
after-bare (WriteNote note) m = refl
after-bare SyncNote m = refl

failing-bare : (k : ℕ) (call : Call) (m : Machine) → bare (failing k call (bare m)) ≡ bare (failing k call m)
failing-bare k (Write name bytes) m = after-bare (Write name (take k bytes)) m
failing-bare k (WriteRest name bytes) m = after-bare (WriteRest name (take k bytes)) m
failing-bare k (Sync name) m = version-bare m name failed_sync
failing-bare k SyncFolder m = refl
failing-bare zero CreateNext m = refl
failing-bare zero CreateCopy m = refl
failing-bare zero RenameNext m = refl
failing-bare zero LinkNext m = refl
failing-bare zero UnlinkNext m = refl
failing-bare zero PlaceCopy m = refl
failing-bare zero UnlinkCopy m = refl
failing-bare zero (WriteNote note) m = refl
failing-bare zero SyncNote m = refl
failing-bare (suc k) CreateNext m = refl
failing-bare (suc k) CreateCopy m = refl
failing-bare (suc k) RenameNext m = refl
failing-bare (suc k) LinkNext m = refl
failing-bare (suc k) UnlinkNext m = refl
failing-bare (suc k) PlaceCopy m = place-bare m
failing-bare (suc k) UnlinkCopy m = refl
failing-bare (suc k) (WriteNote note) m = refl
failing-bare (suc k) SyncNote m = refl

pub made-bare : (entry : Entry) (m : Machine) → bare (machine_made entry (bare m)) ≡ bare (machine_made entry m)
made-bare (Called call None) m = after-bare call m
made-bare (Called call (Some part)) m = failing-bare part call m
made-bare NoteRead m = refl
made-bare NoteUnread m = refl
