-- How long the files are, and what opening makes of them.
use Rattle.std.{proofs.Common.{◌≡◌, ◌≢◌, ◌⊎◌, inl, inr, ⊎_elim, refl, sym, ◌∙◌, ap, subst, ◌≤◌, length-append}, specs.Prelude.{ℕ, Bool}}
use Rattle.std.specs.Prelude.{List, get_or, Option, Some, None, IsSome, option_map}
use Rattle.conf_store.proofs.Prelude.{false≢true, File, empty_file, file_bytes, Folder, bytes_at, bytes_under, Image, IsImage, image_now}
use Rattle.conf_store.proofs.Prelude.{synced_file, ReadingIsAnImage, DiskModel, LeavesOnly, TimeGoesOn, DiskFault, Store, LeavesOnly-weaker}
use Rattle.conf_store.proofs.Prelude.{LeavesOnly-joined, LeavesOnly-now, LeavesOnly-same, HoldsStore, OnlyHeldIsLeft, file_at, IsStoreOf}
use Rattle.conf_store.proofs.{Prelude.{LeavesStoreOr, Contents, several_waited}, StagedLemmas.{text-of, text-length}}
use Rattle.conf_store.{proofs.OpenLemmas.found-means, specs.{Faults.open_fault, Staged.{Staged, staged_length}, Durable.IsHeld}}
use Rattle.conf_store.specs.{Durable.{IsStaging, staged_text}, Opens.{IsFound, file_format}, declared.fault.OpenFault.OpenFault}
use Rattle.conf_store.specs.{declared.fault.OpenFault.TheVariants.Device, Files.{HasLength, FilesStay, IsNewBase, IsOldOrBase}}
use Rattle.{conf_store.specs.Files.LeavesOldOrBase, conf_record.specs.Formats.base_in}
use Rattle.conf_disk.specs.declared.disk.DiskFault.TheVariants as disk

-- ---- lengths

file-read : (files : List File) (place : Option ℕ) (file : File) → file_at files place ≡ Some file
    → bytes_at files place ≡ Some (file_bytes file)
file-read files None file is = absurd (cc is)
file-read files (Some id) file is =
    let same : get_or files id empty_file ≡ file = cc is in
    ap (λ (x : File). Some (file_bytes x)) same

-- an open store keeps the length of `store.yaml`
pub held-length : (folder : Folder) (s : Contents) (size : ℕ) (waits : Bool) → IsHeld folder s size waits
    → HasLength (bytes_under folder Store) size
held-length folder s size waits held =
    let file = held.file in
    subst (λ (o : Option (List ℕ)). HasLength o size) (sym (file-read folder.files folder.now.store file held.holds.is))
    (length-append file.synced file.pending ∙ held.long)

-- and that of a running checkpoint's new file
pub staging-length : (folder : Folder) (s : Contents) (staged : Option Staged) → IsStaging folder s staged
    → IsSome staged → HasLength (staged_text folder staged) (staged_length staged)
staging-length folder s None is some = absurd (false≢true some)
staging-length folder s (Some staged) is some =
    subst (λ (o : Option (List ℕ)). HasLength o (staged_length (Some staged))) (sym (text-of folder s staged is))
    (text-length folder s staged is)

-- ---- nothing is written

-- an image is one with its own store and note
pub own-store : (folder : Folder) (image : Image) → IsImage folder image → IsStoreOf folder image
own-store folder image is = record { left = image; is = is; same = refl; noted = refl }

-- a run that leaves only old images and reads as before
pub files-stay : {D : Type 0} (model : DiskModel D) (old new : D)
    → ((t : ℕ) (image : Image) → t ≤ model.moment new → IsImage (model.folder new) image → model.left new t image)
    → image_now (model.folder new) ≡ image_now (model.folder old)
    → LeavesOnly model old new (IsImage (model.folder old)) → FilesStay model old new
files-stay model old new counts reads run = record {
  reads = reads;
  now = LeavesOnly-now model old new (IsImage (model.folder old)) counts run;
  any_moment = run;
}

-- a read, which changes nothing
pub read-stays : {D : Type 0} (model : DiskModel D) (old new : D)
    → ((t : ℕ) (image : Image) → t ≤ model.moment new → IsImage (model.folder new) image → model.left new t image)
    → ((image : Image) → model.left old (model.moment old) image → IsImage (model.folder old) image)
    → TimeGoesOn model old new → model.folder new ≡ model.folder old → FilesStay model old new
read-stays model old new counts only time same =
    files-stay model old new counts (ap image_now same) (LeavesOnly-same model old new only time same)

-- it leaves an old store
pub images-old : {D : Type 0} (model : DiskModel D) (old new : D)
    → LeavesOnly model old new (IsImage (model.folder old)) → LeavesOldOrBase model old new
images-old model old new run =
    LeavesOnly-weaker model old new (IsImage (model.folder old))
    (λ image. IsStoreOf (model.folder old) image
    ⊎ IsNewBase (several_waited (model.folder old)) (bytes_under (model.folder old) Store) image.store) run
    (λ image is. inl (own-store (model.folder old) image is))

-- where a base is written, the file is missing or has bytes after its last closing line
pub not-needed : (several : Bool) (store : Option (List ℕ)) (s : Contents) (records dropped : ℕ) (size : Option ℕ)
    → IsFound several store s records dropped size → size ≡ None → dropped ≡ 0 → IsSome store → ⊥
not-needed several None s records dropped size found is none some = absurd (false≢true some)
not-needed several (Some bytes) s records dropped size found is none some = ⊎_elim (λ e. cc e) (λ other. other none) (found.staged is)

-- where the file stays as it is, it is there and ends with a closing line
pub kept-as-it-is : (several : Bool) (store : Option (List ℕ)) (s : Contents) (records dropped n : ℕ) (size : Option ℕ)
    → IsFound several store s records dropped size → size ≡ Some n → (store ≡ None) ⊎ (dropped ≢ 0) → ⊥
kept-as-it-is several store s records dropped n size found is needed =
    let stays = found.stays n is in
    ⊎_elim (λ none. let both : Some stays.1 ≡ None = sym stays.2 ∙ none in cc both) (λ some. some stays.0) needed

-- a fault of the disk that isn't `Device`
pub disk-memory : (fault : DiskFault) (reason : OpenFault) → reason ≡ open_fault fault → reason ≢ Device → fault ≡ disk.OutOfMemory
disk-memory disk.Device reason is some = absurd (some is)
disk-memory disk.OutOfMemory reason is some = refl

-- ---- a base is written

new-base : (several : Bool) (store file : Option (List ℕ)) (s : Contents) (records dropped : ℕ) (size : Option ℕ)
    → IsFound several store s records dropped size → size ≡ None → file ≡ Some (base_in (file_format store) s)
    → IsNewBase several store file
new-base several store file s records dropped size found is same = record {
  state = s;
  means = found-means several store s records dropped size found;
  records = records;
  dropped = dropped;
  recovers = found.recovers;
  needed = found.staged is;
  is = same;
}

-- a store of a folder that has no other images than the entry is an old one
pub loaded-old : (entry now : Folder) → ((image : Image) → IsImage now image → IsImage entry image)
    → (image : Image) → IsStoreOf now image → IsStoreOf entry image
loaded-old entry now shrinks image is =
    record { left = is.left; is = shrinks is.left is.is; same = is.same; noted = is.noted }

module _ {D : Type 0} (model : DiskModel D) (old mid new : D) (s : Contents) (records dropped : ℕ) (size : Option ℕ)
    (found : IsFound (several_waited (model.folder old)) (bytes_under (model.folder old) Store) s records dropped size) (is : size ≡ None)
    (writes : LeavesStoreOr model (Some (base_in (file_format (bytes_under (model.folder old) Store)) s)) mid new) where
  abbrev pub note : Bool
  note = several_waited (model.folder old)

  abbrev pub file : Option (List ℕ)
  file = bytes_under (model.folder old) Store

  -- after `old` was loaded, a run that leaves the store or the base
  pub base-leaves : ((image : Image) → IsImage (model.folder mid) image → IsImage (model.folder old) image)
      → LeavesOnly model old mid (IsImage (model.folder old)) → LeavesOldOrBase model old new
  base-leaves shrinks loads =
      LeavesOnly-joined model old mid new (IsImage (model.folder old))
      (λ image. IsStoreOf (model.folder mid) image ⊎ (image.store ≡ Some (base_in (file_format file) s)))
      (λ image. IsStoreOf (model.folder old) image ⊎ IsNewBase note file image.store) loads writes
      (λ image was. inl (own-store (model.folder old) image was))
      (λ image. ⊎_elim (λ was. inl (loaded-old (model.folder old) (model.folder mid) shrinks image was))
      (λ same. inr (new-base note file image.store s records dropped size found is same)))

  -- what is read then
  pub base-reads : ReadingIsAnImage → OnlyHeldIsLeft → HoldsStore (model.folder mid) (option_map synced_file file)
      → ((t : ℕ) (image : Image) → t ≤ model.moment new → IsImage (model.folder new) image → model.left new t image)
      → IsOldOrBase note file (bytes_under (model.folder new) Store)
  base-reads reading only holds counts =
      let image = image_now (model.folder new) in
      ⊎_elim (λ was. inl (only (model.folder mid) file image holds was))
      (λ same. inr (new-base note file image.store s records dropped size found is same))
      (LeavesOnly-now model mid new (λ (i : Image). IsStoreOf (model.folder mid) i
      ⊎ (i.store ≡ Some (base_in (file_format file) s))) counts writes image (reading (model.folder new)))
