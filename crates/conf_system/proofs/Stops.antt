-- What a crash leaves where nothing is pending.
use Rattle.std.{specs.Prelude.option_map, proofs.Common.{◌≡◌, ◌↔◌, ℕ, zero, suc, List, [], ◌∷◌, ◌++◌, get_or, Option, Some, None, Contains}}
use Rattle.std.proofs.{Common.{Bool, refl, sym, ◌∙◌, ap, subst, arith}, lemmas.List.{append-nil, Elements.All-contains}}
use Rattle.std.proofs.lemmas.List.Elements.{Contains-append_right}
use Rattle.conf_disk.{specs.{Folder.Stage, Image.{Image, IsWorn}}, proofs.Worn.IsWorn-none}
use Rattle.conf_system.specs.{declared.system.{FileName.TheVariants.Store, Note.Note}, Machine.{Version, Held, Machine, empty_held}}
use Rattle.conf_system.specs.{Machine.{version_bytes, version_at, stages, bytes_under, apart}, Crash.{IsTorn, IsLeftOf, IsLeftAt}}
use Rattle.conf_system.{specs.Crash.{CrashLeaves, IsOnDevice, image_now, files_machine, machine_of}, proofs.Torn.the_only}
use Rattle.conf_system.proofs.Images.{reading-left}

-- a file in one version, of which the device has all bytes
record IsWhole (file : Held) : Type 0 where
  pub alone : file.earlier ≡ []
  pub whole : file.now.pending ≡ []

held-left : (file : Held) (bytes : List ℕ) → IsWhole file → IsLeftOf file bytes → bytes ≡ version_bytes file.now
held-left file bytes is left =
    let same : left.version ≡ file.now =
    the_only left.version file.now
    (subst (λ (earlier : List Version). Contains (earlier ++ file.now ∷ []) left.version) is.alone left.among) in
    let torn : IsTorn file.now bytes = subst (λ (version : Version). IsTorn version bytes) same left.torn in
    torn.is ∙ ap (λ (l : List ℕ). file.now.device ++ l)
    (IsWorn-none torn.left (subst (λ (pending : List ℕ). IsWorn pending torn.left) is.whole torn.worn) ∙ sym is.whole)

place-left : (files : List Held) (place : Option ℕ) (left : Option (List ℕ))
    → ((id : ℕ) → place ≡ Some id → IsWhole (get_or files id empty_held)) → IsLeftAt files place left
    → left ≡ option_map version_bytes (version_at files place)
place-left files None None whole left = refl
place-left files None (Some bytes) whole left = absurd left
place-left files (Some id) None whole left = absurd left
place-left files (Some id) (Some bytes) whole left = ap Some (held-left (get_or files id empty_held) bytes (whole id refl) left)

pub device-left : (m : Machine) (id : ℕ) (image : Image) → IsOnDevice m id → CrashLeaves m image → image.store ≡ bytes_under m Store
device-left m id image on left =
    place-left m.files (Some id) image.store (λ at is. subst (λ (i : ℕ). IsWhole (get_or m.files i empty_held))
    (let same : id ≡ at = cc in same) (record { alone = on.alone; whole = on.whole }))
    (subst (λ (place : Option ℕ). IsLeftAt m.files place image.store) (has left.stage left.among) left.store)
    ∙ ap (λ (place : Option ℕ). option_map version_bytes (version_at m.files place))
    (sym (has m.now (Contains-append_right m.earlier (m.now ∷ []) m.now (0, omega arith, refl))))
  where
    has : (stage : Stage) → Contains (stages m) stage → stage.store ≡ Some id
    has stage among = All-contains (λ s. s.store ≡ Some id) (stages m) stage on.stages among

files-whole : (store next : Option (List ℕ)) (copy : Option Version) (note : Note) (id : ℕ)
    → IsWhole (get_or (files_machine store next copy note).files id empty_held)
files-whole None None copy note id = record { alone = refl; whole = refl }
files-whole (Some s) None copy note zero = record { alone = refl; whole = refl }
files-whole (Some s) None copy note (suc id) = record { alone = refl; whole = refl }
files-whole None (Some n) copy note zero = record { alone = refl; whole = refl }
files-whole None (Some n) copy note (suc id) = record { alone = refl; whole = refl }
files-whole (Some s) (Some n) copy note zero = record { alone = refl; whole = refl }
files-whole (Some s) (Some n) copy note (suc zero) = record { alone = refl; whole = refl }
files-whole (Some s) (Some n) copy note (suc (suc id)) = record { alone = refl; whole = refl }

files-settled : (store next : Option (List ℕ)) (copy : Option Version) (note : Note) → (files_machine store next copy note).earlier ≡ []
files-settled None None copy note = refl
files-settled (Some s) None copy note = refl
files-settled None (Some n) copy note = refl
files-settled (Some s) (Some n) copy note = refl

files-read : (store next : Option (List ℕ)) (copy : Option Version) (note : Note)
    → image_now (files_machine store next copy note) ≡ record { store = store; next = next; several = note.several }
files-read None None copy note = refl
files-read (Some s) None copy note = λ i. record { store = Some (append-nil s i); next = None; several = note.several }
files-read None (Some n) copy note = λ i. record { store = None; next = Some (append-nil n i); several = note.several }
files-read (Some s) (Some n) copy note =
    λ i. record { store = Some (append-nil s i); next = Some (append-nil n i); several = note.several }

-- where the names are settled, and each file is whole, a crash leaves what reads see
settled-left : (m : Machine) (image : Image) → m.earlier ≡ [] → m.notes ≡ [] → ((id : ℕ) → IsWhole (get_or m.files id empty_held))
    → CrashLeaves m image → image ≡ image_now m
settled-left m image settled silent whole left =
    let same : left.stage ≡ m.now =
    the_only left.stage m.now (subst (λ (earlier : List Stage). Contains (earlier ++ m.now ∷ []) left.stage) settled left.among) in
    let store = place-left m.files m.now.store image.store (λ id is. whole id)
    (subst (λ (stage : Stage). IsLeftAt m.files stage.store image.store) same left.store) in
    let next = place-left m.files (apart m.now.store m.now.next) image.next (λ id is. whole id)
    (subst (λ (stage : Stage). IsLeftAt m.files (apart stage.store stage.next) image.next) same left.next) in
    let note : left.note ≡ m.note =
    the_only left.note m.note (subst (λ (notes : List Note). Contains (notes ++ m.note ∷ []) left.note) silent left.noted) in
    let several = left.several ∙ ap (λ (n : Note). n.several) note in
    λ i. record { store = store i; next = next i; several = several i }

files-silent : (store next : Option (List ℕ)) (copy : Option Version) (note : Note) → (files_machine store next copy note).notes ≡ []
files-silent None None copy note = refl
files-silent (Some s) None copy note = refl
files-silent None (Some n) copy note = refl
files-silent (Some s) (Some n) copy note = refl

pub image-stays : (image later : Image) (copy : Option Version) (on_device : Bool)
    → CrashLeaves (machine_of image copy on_device) later ↔ (later ≡ image)
image-stays image later copy on_device = (
  λ left. settled-left m later (files-settled image.store image.next copy note) (files-silent image.store image.next copy note)
      (files-whole image.store image.next copy note) left
      ∙ reads,
  λ same. subst (λ (i : Image). CrashLeaves m i) (reads ∙ sym same) (reading-left m),
)
  where
    m : Machine
    m = machine_of image copy on_device

    note : Note
    note = record { on_device = on_device; several = image.several }

    reads : image_now (machine_of image copy on_device) ≡ image
    reads = files-read image.store image.next copy note
