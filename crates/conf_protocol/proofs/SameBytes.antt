-- What a disk reads is what the system reads.
use Rattle.std.{specs.Prelude.option_map, proofs.Common.{◌≡◌, ℕ, List, length, map, get_or, take-append-drop, Option, Some, None, false}}
use Rattle.std.proofs.Common.{refl, sym, ◌∙◌, ap}
use Rattle.conf_disk.specs.{Folder.{File, file_bytes}, declared.disk.Name.{Name, TheVariants.{Store, Next}}}
use Rattle.conf_system.specs.Machine.{Held, Machine, empty_held, version_bytes, version_at, bytes_under, file_of, sure_count, are_linked}
use Rattle.conf_system.{specs.{Machine.{SyncFolder, after}, Folders.folder_of}, proofs.Steps.{file_at, apart-same}}
use Rattle.conf_protocol.{specs.Names.file_name, proofs.Frames.at-settled}
use Rattle.conf_disk.specs.Folder as disk

at-same : (files : List Held) (place : Option ℕ)
    → disk.bytes_at (map file_of files) place ≡ option_map version_bytes (version_at files place)
at-same files None = refl
at-same files (Some id) =
    let file = get_or files id empty_held in
    ap (λ (f : File). Some (file_bytes f)) (file_at files id)
    ∙ ap (λ (l : List ℕ). Some l) (take-append-drop (sure_count (length file.now.device) file.earlier) (version_bytes file.now))

pub read-same : (m : Machine) (name : Name) → (name ≡ Next → are_linked m.now.store m.now.next ≡ false)
    → disk.bytes_under (folder_of m) name ≡ bytes_under m (file_name name)
read-same m Store apart = at-same m.files m.now.store
read-same m Next apart =
    ap (disk.bytes_at (map file_of m.files)) (apart-same m.now.store m.now.next (apart refl)) ∙ at-same m.files m.now.next

-- the bytes of a file of which the length was looked at
pub length-of : (bytes : Option (List ℕ)) (total : ℕ) → option_map length bytes ≡ Some total
    → (b : List ℕ) × (bytes ≡ Some b) × (total ≡ length b)
length-of None total is = cc
length-of (Some b) total is = (b, refl, cc)

-- a sync of the folder leaves what reads
settled-bytes : (m : Machine) (name : Name) → bytes_under (after SyncFolder m) (file_name name) ≡ bytes_under m (file_name name)
settled-bytes m Store = ap (option_map version_bytes) (at-settled m.files m.now.store)
settled-bytes m Next = ap (option_map version_bytes) (at-settled m.files m.now.next)

pub settled-reads : (m : Machine) (name : Name) → are_linked m.now.store m.now.next ≡ false
    → disk.bytes_under (folder_of (after SyncFolder m)) name ≡ disk.bytes_under (folder_of m) name
settled-reads m name apart =
    read-same (after SyncFolder m) name (λ is. apart) ∙ settled-bytes m name ∙ sym (read-same m name (λ is. apart))
