-- Why no store was made of a state.
use Rattle.std.specs.Prelude.{◌≡◌, ◌≢◌, ◌⊎◌, None, Some, Result, Ok, Err}
use Rattle.conf_store.specs.Prelude.{Folder, bytes_under, image_now, Store, base_bytes, Contents}
use Rattle.conf_store.specs.declared.creating.CreateFault.{CreateFault, TheVariants.{StoreExists, Device, OutOfMemory}}

-- Why no store of `s` was made. At StoreExists there is a `store.yaml`, and nothing has changed. At OutOfMemory both
-- files read as before. At Device `store.yaml` reads as before, or there was none and now it is the whole base of `s`.
abbrev pub RefusesCreation : Folder → Contents → CreateFault → Folder → Type 0
RefusesCreation old s StoreExists new = (bytes_under old Store ≢ None) × (new ≡ old)
RefusesCreation old s OutOfMemory new = image_now new ≡ image_now old
RefusesCreation old s Device new =
    (bytes_under new Store ≡ bytes_under old Store)
    ⊎ (bytes_under old Store ≡ None) × (bytes_under new Store ≡ Some (base_bytes s))

-- the disk that is handed back, with a store or without
abbrev pub disk_behind : {D : Type 0} → Result D (D × CreateFault) → D
disk_behind (Ok disk) = disk
disk_behind (Err r) = r.0
