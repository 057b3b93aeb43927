-- What opening finds, and that it changes no meaning.
use Rattle.std.{proofs.Common.{◌≡◌, inl, inr, ⊎_elim, refl, sym, ◌∙◌, ap, subst, arith, ◌≤◌, append-nil, []}, specs.Prelude.{ℕ, zero, suc}}
use Rattle.std.specs.{Prelude.{Bool, List, Option, Some, None, option_map, Vec}, declared.alloc.Global.Global}
use Rattle.conf_store.proofs.Prelude.{Folder, Tells, bytes_under, Image, IsImage, image_now, synced_file, ReadingIsAnImage, Bytes, TooLong}
use Rattle.conf_store.proofs.Prelude.{Missing, Store, HoldsStore, IsStoreOf, several_waited, store_limit, Contents, cases_lt, DiskFault}
use Rattle.conf_store.{proofs.RecoveryLemmas.{recovers-means, recovers-whole}, specs.{Faults.open_fault, Calls.HasFailed}}
use Rattle.conf_store.specs.{Durable.IsDurable, declared.fault.OpenFault.{OpenFault, TheVariants.{NotAStore, Damaged, Device, OutOfMemory}}}
use Rattle.conf_store.specs.{Meaning.{FileMeans, ImageMeans, MeanTheSame}, Opens.{FileRecoversTo, HasNoBase, RefusesBytes, IsFound}}
use Rattle.conf_store.specs.Opens.{file_format, RefusesOpening, RefusalMeans, OneMeaning, RefusedMeansNothing, ReadsAfterOpening}
use Rattle.{conf_store.specs.Opens.MeantAtEntry, conf_record.specs.{declared.format.Format.{Format, TheVariants.Second}, Formats.base_in}}
use Rattle.conf_record.specs.Formats.{format_of, FormatsAreTold}
use Rattle.conf_disk.specs.declared.disk.DiskFault.TheVariants as disk

-- ---- what is found

-- a store that is too long is refused as none
pub too-long : (several : Bool) (store : Option (List ℕ)) → Tells store store_limit TooLong → RefusesOpening NotAStore several store
too-long several None tells = absurd tells
too-long several (Some bytes) tells = inl tells

-- a store whose bytes are refused is refused
pub not-read : (several : Bool) (store : Option (List ℕ)) (read : Vec ℕ Global) (fault : OpenFault)
    → Tells store store_limit (Bytes read) → RefusesBytes several read.items fault → RefusesOpening fault several store
not-read several None read fault tells unread = absurd tells
not-read several (Some bytes) read NotAStore tells unread = inr (subst HasNoBase tells.0 unread)
not-read several (Some bytes) read (Damaged number) tells unread =
    (tells.1, subst (λ b. RefusesBytes several b (Damaged number)) tells.0 unread)
not-read several (Some bytes) read Device tells unread = tt
not-read several (Some bytes) read OutOfMemory tells unread = tt

-- the state that is found is the one that the file means
pub found-means : (several : Bool) (store : Option (List ℕ)) (s : Contents) (records dropped : ℕ) (size : Option ℕ)
    → IsFound several store s records dropped size → FileMeans several store s
found-means several None s records dropped size found = found.recovers.0
found-means several (Some bytes) s records dropped size found =
    recovers-means several bytes s records dropped found.recovers (found.short bytes refl)

-- a file that stays as it is is durable
pub found-durable : (folder : Folder) (several : Bool) (store : Option (List ℕ)) (s : Contents) (records dropped n : ℕ)
    (size : Option ℕ) → IsFound several store s records dropped size → size ≡ Some n
    → HoldsStore folder (option_map synced_file store) → IsDurable folder s n
found-durable folder several store s records dropped n size found is holds =
    let stays = found.stays n is in
    let bytes = stays.1 in
    record {
      bytes = bytes;
      holds = subst (λ (o : Option (List ℕ)). HoldsStore folder (option_map synced_file o)) stays.2 holds;
      whole = recovers-whole several bytes s records dropped
          (subst (λ o. FileRecoversTo several o s records dropped) stays.2 found.recovers) stays.0;
      long = stays.3;
      short = subst (λ m. m ≤ store_limit) stays.3 (found.short bytes stays.2);
    }

-- ---- no meaning is changed

store-one : OneMeaning → (several more : Bool) (store : Option (List ℕ)) (s end : Contents) → FileMeans several store s
    → FileMeans more store end → s ≡ end
store-one one several more None s end first second = first ∙ sym second
store-one one several more (Some bytes) s end first second = one bytes several more s end first second

-- two images that mean one state mean the same
pub both-mean : OneMeaning → (image other : Image) (s : Contents) → ImageMeans image s → ImageMeans other s → MeanTheSame image other
both-mean one image other s first second end = (
  λ is. subst (ImageMeans other) (store-one one image.several image.several image.store s end first is) second,
  λ is. subst (ImageMeans image) (store-one one other.several other.several other.store s end second is) first,
)

-- so do two with the same file and the same note
same-alike : (image other : Image) → other.store ≡ image.store → other.several ≡ image.several → MeanTheSame image other
same-alike image other store note s = (
  λ is. subst (λ several. FileMeans several other.store s) (sym note) (subst (λ file. FileMeans image.several file s) (sym store) is),
  λ is. subst (λ several. FileMeans several image.store s) note (subst (λ file. FileMeans other.several file s) store is),
)

-- an image of the folder at the entry is one that means what it means
pub image-meant : (folder : Folder) (image : Image) → IsImage folder image → MeantAtEntry folder image
image-meant folder image is = record { entry = image; is = is; alike = same-alike image image refl refl }

-- a store of a folder that has no other images than the entry
pub loaded-meant : (entry now : Folder) → ((image : Image) → IsImage now image → IsImage entry image)
    → (image : Image) → IsStoreOf now image → MeantAtEntry entry image
loaded-meant entry now shrinks image is =
    record { entry = is.left; is = shrinks is.left is.is; alike = same-alike image is.left is.same is.noted }

-- an image with the state that was found
pub state-meant : OneMeaning → ReadingIsAnImage
    → (entry : Folder) (s : Contents) (records dropped : ℕ) (size : Option ℕ)
    → IsFound (several_waited entry) (bytes_under entry Store) s records dropped size → (image : Image) → ImageMeans image s
    → MeantAtEntry entry image
state-meant one reading entry s records dropped size found image own = record {
  entry = image_now entry;
  is = reading entry;
  alike = both-mean one image (image_now entry) s own
      (found-means (several_waited entry) (bytes_under entry Store) s records dropped size found);
}

-- ---- a file that is refused

-- a store that is refused means nothing, by the law on its bytes
pub refused-nothing : RefusedMeansNothing → (fault : OpenFault) (several : Bool) (store : Option (List ℕ))
    → RefusesOpening fault several store → RefusalMeans fault several store
refused-nothing nothing Device several store refused = tt
refused-nothing nothing OutOfMemory several store refused = tt
refused-nothing nothing NotAStore several None refused = absurd refused
refused-nothing nothing (Damaged number) several None refused = absurd refused
refused-nothing nothing NotAStore several (Some bytes) (inl long) = λ s means. (let short = means.short in omega (arith, long, short))
refused-nothing nothing NotAStore several (Some bytes) (inr none) = λ s means. (nothing several bytes s means).0 none
refused-nothing nothing (Damaged number) several (Some bytes) damaged = λ s means. (nothing several bytes s means).1 number damaged.1

-- ---- failures

-- a failure in the first part of a run is one of the whole run
pub failed-later : (old mid new : ℕ) → old ≤ mid → mid ≤ new → HasFailed mid new → HasFailed old new
failed-later old mid new first second (inl rose) = inl (omega (arith, first, rose))
failed-later old mid new first second (inr stood) = elim (cases_lt old mid) [
  | inl less ↦ inl (omega (arith, less, second))
  | inr more ↦ inr (omega (arith, more, first, stood))
]

-- ---- what `store.yaml` holds after opening

-- a store that is kept reads as it did
pub reads-stays : (several : Bool) (store now : Option (List ℕ)) (s : Contents) (records dropped n : ℕ) (size : Option ℕ)
    → IsFound several store s records dropped size → size ≡ Some n → now ≡ store → ReadsAfterOpening store s dropped now
reads-stays several None now s records dropped n size found is same = (let stays = found.stays n is in absurd (cc stays.2))
reads-stays several (Some bytes) now s records zero n size found is same = same
reads-stays several (Some bytes) now s records (suc dropped) n size found is same =
    (let none : suc dropped ≡ 0 = (found.stays n is).0 in absurd (omega (arith, none)))

-- a store that is put in place of the old one reads as the base of the state that was found
pub reads-staged : (several : Bool) (store now : Option (List ℕ)) (s : Contents) (records dropped : ℕ) (size : Option ℕ)
    → IsFound several store s records dropped size → size ≡ None → now ≡ Some (base_in (file_format store) s)
    → ReadsAfterOpening store s dropped now
reads-staged several None now s records dropped size found is same = same
reads-staged several (Some bytes) now s records (suc dropped) size found is same = same
reads-staged several (Some bytes) now s records zero size found is same = absurd (⊎_elim (λ e. cc e) (λ some. some refl) (found.staged is))

-- a new base has the format in which it was written
pub base-format : FormatsAreTold → (format : Format) (s : Contents) (now : Option (List ℕ)) → now ≡ Some (base_in format s)
    → format ≡ file_format now
base-format told format s now is =
    sym (ap file_format is ∙ ap format_of (sym (append-nil (base_in format s))) ∙ told format s [])

-- a missing file has the format of a new one
pub missing-format : (store : Option (List ℕ)) → Tells store store_limit Missing → Second ≡ file_format store
missing-format None tells = refl
missing-format (Some bytes) tells = absurd tells

-- ---- faults of the disk

-- a fault of the disk is a reason to refuse the opening
pub disk-refused : (fault : DiskFault) (reason : OpenFault) (several : Bool) (file : Option (List ℕ)) → reason ≡ open_fault fault
    → RefusesOpening reason several file
disk-refused disk.Device reason several file is = subst (λ f. RefusesOpening f several file) (sym is) tt
disk-refused disk.OutOfMemory reason several file is = subst (λ f. RefusesOpening f several file) (sym is) tt

-- a fault of the disk says nothing of what the file means
pub disk-no-meaning : (fault : DiskFault) (reason : OpenFault) (several : Bool) (file : Option (List ℕ)) → reason ≡ open_fault fault
    → RefusalMeans reason several file
disk-no-meaning disk.Device reason several file is = subst (λ f. RefusalMeans f several file) (sym is) tt
disk-no-meaning disk.OutOfMemory reason several file is = subst (λ f. RefusalMeans f several file) (sym is) tt

-- `Device` comes only from the disk's `Device`
pub disk-device : (fault : DiskFault) → open_fault fault ≡ Device → fault ≡ disk.Device
disk-device disk.Device is = refl
disk-device disk.OutOfMemory is = absurd (cc is)
