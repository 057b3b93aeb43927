-- The cuts of a stage and its images; what a crash leaves.
use Rattle.std.proofs.Common.{◌≡◌, ◌↔◌, ℕ, zero, suc, ◌+◌, ◌≤◌, List, [], ◌∷◌, ◌++◌, length, get_or, take, replicate, Option, Some, None}
use Rattle.std.proofs.Common.{Contains, slice_get, Bool, true, false, ◌&&◌, ◌||◌, if◌then◌else◌, refl, sym, ◌∙◌, ap, subst, arith}
use Rattle.std.proofs.{Common.append_assoc, lemmas.{List.{append-nil, Elements.Contains-append_right}, Bool.{le-leb, leb-true}}}
use Rattle.std.proofs.lemmas.Option.{slice_get-get_or, slice_get_within, get_or_from_slice_get}
use Rattle.conf_disk.specs.{Folder.{File, empty_file, file_bytes, Stage, Folder, stages, bytes_at, with_notes}, Image.{Image, IsImage}}
use Rattle.conf_disk.specs.Image.{IsTorn, IsTornAt, IsLater, image_now, folder_of_image, folder_with, folder_with_files, fits_at}
use Rattle.conf_disk.specs.{Image.{torn_bytes, torn_at, with_zeros, IsWorn, Places, image_of_stage}, Laws.IsCutTo, declared.cuts.Cuts.Cuts}
use Rattle.conf_disk.proofs.Worn.{IsWorn-whole, IsWorn-none, IsWorn-prefix, IsWorn-zeros, IsWorn-holed}

-- a prefix of the pending bytes with zeros after it
pub prefix-torn : (file : File) (keep count : ℕ) → keep + count ≤ length file.pending → IsTorn file (torn_bytes file keep count)
prefix-torn file keep count le = record {
  left = take keep file.pending ++ replicate count 0;
  worn = IsWorn-prefix file.pending keep count le;
  is = append_assoc file.synced (take keep file.pending) (replicate count 0);
}

-- A cut that fits, and places of zeros, which leave these bytes.
record IsCutAt (files : List File) (place : Option ℕ) (bytes : Option (List ℕ)) : Type 0 where
  pub keep : ℕ
  pub count : ℕ
  pub places : List ℕ
  pub fits : fits_at files place keep count ≡ true
  pub is : torn_at files place keep count places ≡ bytes

-- a torn file is one under such a cut
fits-torn : (files : List File) (place : Option ℕ) (bytes : Option (List ℕ)) → IsTornAt files place bytes
    → IsCutAt files place bytes
fits-torn files None None torn = record { keep = 0; count = 0; places = []; fits = refl; is = refl }
fits-torn files None (Some bytes) torn = absurd torn
fits-torn files (Some id) None torn = absurd torn
fits-torn files (Some id) (Some bytes) torn =
    let file = get_or files id empty_file in
    let holed = IsWorn-holed file.pending torn.left torn.worn in
    record {
      keep = length torn.left;
      count = 0;
      places = holed.places;
      fits = le-leb (length torn.left + 0) (length file.pending) (omega (arith, holed.fits));
      is = ap Some (append-nil _ ∙ ap (λ (left : List ℕ). file.synced ++ left) holed.is ∙ sym torn.is);
    }

-- and a cut that fits leaves a torn file
torn-fits : (files : List File) (place : Option ℕ) (keep count : ℕ) (places : List ℕ) → fits_at files place keep count ≡ true
    → IsTornAt files place (torn_at files place keep count places)
torn-fits files None keep count places fits = tt
torn-fits files (Some id) keep count places fits =
    let file = get_or files id empty_file in
    record {
      left = with_zeros places (take keep file.pending) ++ replicate count 0;
      worn = IsWorn-zeros places file.pending (take keep file.pending) (replicate count 0)
          (IsWorn-prefix file.pending keep count (leb-true (keep + count) (length file.pending) fits));
      is = append_assoc file.synced (with_zeros places (take keep file.pending)) (replicate count 0);
    }

abbrev cut_image : Folder → Stage → Cuts → Places → Bool → Image
cut_image folder stage cuts places note = record {
  store = torn_at folder.files stage.store cuts.store.0 cuts.store.1 places.store;
  next = torn_at folder.files stage.next cuts.next.0 cuts.next.1 places.next;
  several = folder.noted stage.store || note;
}

-- where the note is not left, there was none
no_note : (was note : Bool) → (was || note) ≡ false → was ≡ false
no_note true note is = cc
no_note false note is = refl

image_of_stage-is : (folder : Folder) (stage : Stage) (cuts : Cuts) (places : Places) (note : Bool) (image : Image) (store next : Bool)
    → Contains (stages folder) stage
    → fits_at folder.files stage.store cuts.store.0 cuts.store.1 ≡ store → fits_at folder.files stage.next cuts.next.0 cuts.next.1 ≡ next
    → (if store && next then Some (cut_image folder stage cuts places note) else None) ≡ Some image → IsImage folder image
image_of_stage-is folder stage cuts places note image true true among store next is =
    let same : cut_image folder stage cuts places note ≡ image = cc in
    subst (λ (i : Image). IsImage folder i) same
    (record {
      stage = stage;
      among = among;
      store = torn-fits folder.files stage.store cuts.store.0 cuts.store.1 places.store store;
      next = torn-fits folder.files stage.next cuts.next.0 cuts.next.1 places.next next;
      noted = no_note (folder.noted stage.store) note;
    })
image_of_stage-is folder stage cuts places note image true false among store next is = cc
image_of_stage-is folder stage cuts places note image false next among s n is = cc

image_at-stage : (folder : Folder) (place : ℕ) (cuts : Cuts) (places : Places) (note : Bool) (image : Image) (stage : Option Stage)
    → slice_get (stages folder) place ≡ stage → image_of_stage folder stage cuts places note ≡ Some image → IsImage folder image
image_at-stage folder place cuts places note image None at is = cc
image_at-stage folder place cuts places note image (Some stage) at is =
    image_of_stage-is folder stage cuts places note image _ _ (
      place,
      slice_get_within (stages folder) place stage at,
      get_or_from_slice_get (stages folder) place stage _ at,
    ) refl refl is

-- the note that is left is one that may be
note-kept : (was left : Bool) → (left ≡ false → was ≡ false) → (was || left) ≡ left
note-kept true true may = refl
note-kept true false may = cc (may refl)
note-kept false left may = refl

image-cuts : (folder : Folder) (image : Image) → IsImage folder image → IsCutTo folder image
image-cuts folder image is =
    let store = fits-torn folder.files is.stage.store image.store is.store in
    let next = fits-torn folder.files is.stage.next image.next is.next in
    let at : slice_get (stages folder) is.among.0 ≡ Some is.stage =
    slice_get-get_or (stages folder) is.among.0 _ is.among.1 ∙ ap Some is.among.2 in
    let cuts : Cuts = record { store = (store.keep, store.count); next = (next.keep, next.count) } in
    let places : Places = record { store = store.places; next = next.places } in
    let several = note-kept (folder.noted is.stage.store) image.several is.noted in
    record {
      stage = is.among.0;
      cuts = cuts;
      places = places;
      note = image.several;
      is = ap (λ (stage : Option Stage). image_of_stage folder stage cuts places image.several) at
          ∙ (λ i. if store.fits i && next.fits i then Some (cut_image folder is.stage cuts places image.several) else None)
          ∙ (λ i. Some (record { store = store.is i; next = next.is i; several = several i }));
    }

-- the images of a folder are exactly those of its stages, cuts, places of zeros and notes
pub images-cuts : (folder : Folder) (image : Image) → IsImage folder image ↔ IsCutTo folder image
images-cuts folder image = (
  image-cuts folder image,
  λ found. image_at-stage folder found.stage found.cuts found.places found.note image
      (slice_get (stages folder) found.stage) refl found.is,
)

-- a file may be left whole
IsTorn-whole : (file : File) → IsTorn file (file_bytes file)
IsTorn-whole file = record { left = file.pending; worn = IsWorn-whole file.pending; is = refl }

-- the whole bytes of a file are one of its torn forms
pub IsTornAt-whole : (files : List File) (place : Option ℕ) → IsTornAt files place (bytes_at files place)
IsTornAt-whole files None = tt
IsTornAt-whole files (Some id) = IsTorn-whole (get_or files id empty_file)

-- what reads now is an image that a crash may leave
pub reading-image : (folder : Folder) → IsImage folder (image_now folder)
reading-image folder = record {
  stage = folder.now;
  among = Contains-append_right folder.earlier (folder.now ∷ []) folder.now (0, omega arith, refl);
  store = IsTornAt-whole folder.files folder.now.store;
  next = IsTornAt-whole folder.files folder.now.next;
  noted = λ none. none;
}

-- a file of which nothing is pending is left as it is
pub IsTorn-synced : (file : File) (bytes : List ℕ) → file.pending ≡ [] → IsTorn file bytes → bytes ≡ file_bytes file
IsTorn-synced file bytes none torn =
    let nothing = IsWorn-none torn.left (subst (λ (pending : List ℕ). IsWorn pending torn.left) none torn.worn) in
    torn.is ∙ ap (λ (left : List ℕ). file.synced ++ left) (nothing ∙ sym none)

-- where no file under the names has pending bytes
AllSyncedAt : List File → Option ℕ → Type 0
AllSyncedAt files None = Unit {0}
AllSyncedAt files (Some id) = (get_or files id empty_file).pending ≡ []

IsTornAt-synced : (files : List File) (place : Option ℕ) (bytes : Option (List ℕ)) → AllSyncedAt files place
    → IsTornAt files place bytes → bytes ≡ bytes_at files place
unfolding AllSyncedAt
IsTornAt-synced files None None synced torn = refl
IsTornAt-synced files None (Some bytes) synced torn = absurd torn
IsTornAt-synced files (Some id) None synced torn = absurd torn
IsTornAt-synced files (Some id) (Some bytes) synced torn = ap Some (IsTorn-synced (get_or files id empty_file) bytes synced torn)

-- a list of one stage contains no other
pub only_stage : (stage last : Stage) → Contains (last ∷ []) stage → stage ≡ last
only_stage stage last (zero, lt, is) = sym is
only_stage stage last (suc k, lt, is) = absurd (omega arith)

-- a folder of one stage of which nothing is pending leaves what reads, and the note
one_stage : (files : List File) (store next : Option ℕ) (noted : Option ℕ → Bool) → AllSyncedAt files store → AllSyncedAt files next
    → (later : Image) → IsImage (with_notes (folder_with files store next) noted) later
    → IsLater (image_now (with_notes (folder_with files store next) noted)) later
one_stage files store next noted all_store all_next later is =
    let same = only_stage is.stage (record { store = store; next = next }) is.among in
    record {
      store = IsTornAt-synced files store later.store all_store
          (subst (λ (stage : Stage). IsTornAt files stage.store later.store) same is.store);
      next = IsTornAt-synced files next later.next all_next
          (subst (λ (stage : Stage). IsTornAt files stage.next later.next) same is.next);
      noted = λ none. subst (λ (stage : Stage). noted stage.store ≡ false) same (is.noted none);
    }

-- a folder that has just these files reads as they are
image_reads : (store next : Option (List ℕ)) (several : Bool)
    → image_now (with_notes (folder_with_files store next) (λ place. several)) ≡ record { store = store; next = next; several = several }
image_reads None None several = refl
image_reads (Some s) None several = λ i. record { store = Some (append-nil s i); next = None; several = several }
image_reads None (Some n) several = λ i. record { store = None; next = Some (append-nil n i); several = several }
image_reads (Some s) (Some n) several = λ i. record { store = Some (append-nil s i); next = Some (append-nil n i); several = several }

-- what a crash left is read then
pub image-reads : (image : Image) → image_now (folder_of_image image) ≡ image
image-reads image = image_reads image.store image.next image.several

image_left : (store next : Option (List ℕ)) (noted : Option ℕ → Bool) (later : Image)
    → IsImage (with_notes (folder_with_files store next) noted) later
    → IsLater (image_now (with_notes (folder_with_files store next) noted)) later
unfolding AllSyncedAt
image_left None None noted later is = one_stage _ _ _ noted tt tt later is
image_left (Some s) None noted later is = one_stage _ _ _ noted refl tt later is
image_left None (Some n) noted later is = one_stage _ _ _ noted tt refl later is
image_left (Some s) (Some n) noted later is = one_stage _ _ _ noted refl refl later is

-- with the note or without one, where there was none
IsImage-noted : (folder : Folder) (image later : Image) → IsImage folder image → IsLater image later → IsImage folder later
IsImage-noted folder image later is later_of = record {
  stage = is.stage;
  among = is.among;
  store = subst (λ (bytes : Option (List ℕ)). IsTornAt folder.files is.stage.store bytes) (sym later_of.store) is.store;
  next = subst (λ (bytes : Option (List ℕ)). IsTornAt folder.files is.stage.next bytes) (sym later_of.next) is.next;
  noted = λ none. is.noted (later_of.noted none);
}

-- a folder that a crash left has one image, itself, but for the note
pub image-stays : (image later : Image) → IsImage (folder_of_image image) later ↔ IsLater image later
image-stays image later = (
  λ is. subst (λ (i : Image). IsLater i later) (image-reads image)
      (image_left image.store image.next (λ place. image.several) later is),
  λ later_of. IsImage-noted (folder_of_image image) image later
      (subst (λ (i : Image). IsImage (folder_of_image image) i) (image-reads image) (reading-image (folder_of_image image))) later_of,
)
