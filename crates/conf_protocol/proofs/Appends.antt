-- An append by writes, as a step of a disk.
use Rattle.std.{specs.Prelude.{Result, Ok, Err, IsErr}, proofs.Common.{◌≡◌, ◌⊎◌, ℕ, suc, ◌≤◌, List, [], ◌∷◌, ◌++◌, length, take, drop, map}}
use Rattle.std.proofs.Common.{get_or, Option, Some, None, Bool, true, false, not, ◌&&◌, ◌||◌, if◌then◌else◌, inl, inr, ⊎_elim, refl, sym}
use Rattle.std.proofs.{Common.{◌∙◌, ap, subst, arith}, Math.Seq.take-length, lemmas.List.take-take}
use Rattle.conf_disk.specs.{Folder.{Folder, File, Stage, noted_at, noted_behind}, Image.{Image, IsImage}, declared.disk.Name.Name}
use Rattle.{conf_disk.proofs.Images.after_part-cases, conf_system.specs.declared.system.FileName.{FileName, TheVariants.{Store, Next}}}
use Rattle.conf_system.specs.{declared.system.Note.Note, Machine.{Version, Machine, Write, after, empty_held, version_at, under}}
use Rattle.conf_system.specs.Machine.{are_linked, with_now, with_pending, is_any, sure_count, file_of, notes_of, all_several}
use Rattle.conf_system.specs.{Machine.noted_by_write, Folders.{MayAppend, folder_of, IsTold}, Models.{SystemModel, Wrote}}
use Rattle.{conf_system.proofs.Steps.{file_at, store_write-appends, next_write-appends}, conf_protocol.specs.Keeps.{IsSafe, IsPlain}}
use Rattle.conf_protocol.specs.{Keeps.{IsExact, is_so, several_after}, Moments.{Changes, Goes}, declared.run.Bytes.Bytes}
use Rattle.conf_protocol.{specs.declared.run.Bytes.TheVariants.{OnDevice, Pending, Unsure}, proofs.Frames.{now-same, note-same}}
use Rattle.conf_protocol.proofs.{Known.{and-second, place-itself, safe-off, nothing-pending}, Keeping.safe-wrote_next, Moving.Passes-weaker}
use Rattle.conf_protocol.proofs.{Moving.may-end, Told.{told-wrote_next, told-wrote_store}}
use Rattle.conf_disk.specs.Folder as disk
use Rattle.conf_disk.specs.declared.disk.Name.TheVariants as disk_name

-- what a write makes of a machine is what an append makes of its folder
pub record Appends (name : FileName) (to : Name) (m : Machine) : Type 0 where
  pub is : (bytes : List ℕ) → folder_of (after (Write name bytes) m) ≡ disk.after (disk.Append to bytes) (folder_of m)
  pub safe : (bytes : List ℕ) → IsSafe (after (Write name bytes) m)
  pub told : (bytes : List ℕ) → IsTold m → IsTold (after (Write name bytes) m)

-- with some of the bytes written, a crash leaves what it leaves before the write or with more of them
some-between : (name : FileName) (to : Name) (bytes : List ℕ) (k count : ℕ) (m : Machine) → k ≤ count → Appends name to m
    → (image : Image) → IsImage (folder_of (after (Write name (take k bytes)) m)) image
    → IsImage (folder_of m) image ⊎ IsImage (folder_of (after (Write name (take count bytes)) m)) image
some-between name to bytes k count m le appends image left =
    let more = take count bytes in
    let first : take k more ≡ take k bytes = take-take k count bytes le in
    ⊎_elim (λ before. inl before)
    (λ after. inr (subst (λ (folder : Folder). IsImage folder image) (sym (appends.is more)) after))
    (after_part-cases (suc k) (disk.Append to more) (folder_of m) image
    (subst (λ (folder : Folder). IsImage folder image)
    (appends.is (take k bytes) ∙ ap (λ (l : List ℕ). disk.after (disk.Append to l) (folder_of m)) (sym first)) left))

pub append-changes : {S : Type 0} (model : SystemModel S) (old new : S) (name : FileName) (to : Name) (bytes : List ℕ) (count : ℕ)
    → Appends name to (model.machine old) → Wrote model (Write name) bytes count old new → Changes model old new
append-changes model old new name to bytes count appends wrote =
    let m = model.machine old in
    record {
      moments = Passes-weaker model old new _ _ wrote.time
          (λ x is. (
            λ image left. ⊎_elim (λ before. inl before)
                (λ now. inr (subst (λ (y : Machine). IsImage (folder_of y) image) (sym wrote.change) now))
                (some-between name to bytes is.0 count m is.1 appends image
                (subst (λ (y : Machine). IsImage (folder_of y) image) is.2 left)),
            may-end m x (after (Write name (take is.0 bytes)) m) is.2 (appends.safe (take is.0 bytes)) (appends.told (take is.0 bytes)),
          ));
      told = λ is. subst IsTold (sym wrote.change) (appends.told (take count bytes) is);
    }

-- all bytes were appended
pub append-whole : {S : Type 0} (model : SystemModel S) (old new : S) (name : FileName) (to : Name) (bytes : List ℕ)
    → Appends name to (model.machine old) → Wrote model (Write name) bytes (length bytes) old new
    → folder_of (model.machine new) ≡ disk.after (disk.Append to bytes) (folder_of (model.machine old))
append-whole model old new name to bytes appends wrote =
    ap folder_of wrote.change ∙ ap (λ (l : List ℕ). folder_of (after (Write name l) (model.machine old))) (take-length bytes)
    ∙ appends.is bytes

-- some of them were
pub append-part : {S : Type 0} (model : SystemModel S) (old new : S) (name : FileName) (to : Name) (bytes : List ℕ) (count : ℕ)
    → Appends name to (model.machine old) → Wrote model (Write name) bytes count old new
    → (k : ℕ) × (folder_of (model.machine new) ≡ disk.after_part k (disk.Append to bytes) (folder_of (model.machine old)))
append-part model old new name to bytes count appends wrote =
    (suc count, ap folder_of wrote.change ∙ appends.is (take count bytes))

-- how an append goes whose bytes were written
pub Goes-wrote : {S E : Type 0} (model : SystemModel S) (name : FileName) (to : Name) (bytes : List ℕ) (was is : Bool) (old : S)
    (result : Result (Unit {0}) E) (new : S) → result ≡ Ok tt → Appends name to (model.machine old)
    → Wrote model (Write name) bytes (length bytes) old new
    → ((x : List ℕ) → IsExact was (model.machine old) → IsExact is (after (Write name x) (model.machine old)))
    → Goes model (disk.Append to bytes) was old result is new
Goes-wrote model name to bytes was is old (Err error) new done appends wrote exact = cc
Goes-wrote model name to bytes was is old (Ok value) new done appends wrote exact = record {
  change = append-whole model old new name to bytes appends wrote;
  moments = append-changes model old new name to bytes (length bytes) appends wrote;
  exact = λ before. subst (IsExact is) (sym wrote.change) (exact (take (length bytes) bytes) before);
}

pub Goes-wrote_part : {S E : Type 0} (model : SystemModel S) (name : FileName) (to : Name) (bytes : List ℕ) (was is : Bool) (old : S)
    (result : Result (Unit {0}) E) (new : S) (count : ℕ) → IsErr result → Appends name to (model.machine old)
    → Wrote model (Write name) bytes count old new
    → ((x : List ℕ) → IsExact was (model.machine old) → IsExact is (after (Write name x) (model.machine old)))
    → Goes model (disk.Append to bytes) was old result is new
Goes-wrote_part model name to bytes was is old (Ok value) new count failed appends wrote exact = cc
Goes-wrote_part model name to bytes was is old (Err error) new count failed appends wrote exact = record {
  change = append-part model old new name to bytes count appends wrote;
  moments = append-changes model old new name to bytes count appends wrote;
  exact = λ before. subst (IsExact is) (sym wrote.change) (exact (take count bytes) before);
}

-- bytes are appended to `next.yaml`
pub next-appends : (m : Machine) → are_linked m.now.store m.now.next ≡ false → IsSafe m → Appends Next disk_name.Next m
next-appends m apart safe = record {
  is = λ bytes. next_write-appends m bytes apart;
  safe = λ bytes. safe-wrote_next m bytes safe;
  told = told-wrote_next m;
}

pub next-exact : (several : Bool) (m : Machine) (bytes : List ℕ) → IsExact several m → IsExact several (after (Write Next bytes) m)
next-exact several m bytes is =
    ap (λ (stage : Stage). m.noted stage.store) (now-same m m.now.next (with_now (with_pending bytes))) ∙ is

-- and to `store.yaml`
may-append : (store : Bytes) (m : Machine) → IsPlain m → (store ≡ Unsure → ⊥) → is_so store (under m Store) ≡ true
    → (store ≡ Pending → all_several (notes_of m) ≡ true) → MayAppend m
may-append OnDevice m plain sure is told = λ none. nothing-pending m m.now.store plain is
may-append Pending m plain sure is told = λ none. absurd (let both : true ≡ false = sym (told refl) ∙ none in cc)
may-append Unsure m plain sure is told = absurd (sure refl)

pub store-appends : (store : Bytes) (m : Machine) → IsPlain m → (store ≡ Unsure → ⊥) → is_so store (under m Store) ≡ true
    → (store ≡ Pending → all_several (notes_of m) ≡ true) → m.note.on_device ≡ false → Appends Store disk_name.Store m
store-appends store m plain sure is told off = record {
  is = λ bytes. store_write-appends m bytes (may-append store m plain sure is told);
  safe = λ bytes. safe-off (after (Write Store bytes) m)
      (ap (λ (n : Note). n.on_device) (note-same m m.now.store (with_now (with_pending bytes))) ∙ off);
  told = told-wrote_store m;
}

drop-front : (xs ys : List ℕ) → drop (length xs) (xs ++ ys) ≡ ys
drop-front [] ys = refl
drop-front (x ∷ xs) ys = drop-front xs ys

-- where bytes of it are pending, the note comes
cut-some : (device pending : List ℕ) (earlier : List Version) (failed : Bool) (noted : Option ℕ → Bool) (id : ℕ) → length earlier ≡ 0
    → (not failed && is_any pending) ≡ true
    → noted_behind (drop (sure_count (length device) earlier) (device ++ pending)) (Some id) noted (Some id) ≡ true
cut-some device [] earlier failed noted id plain is = absurd (let no : false ≡ true = and-second (not failed) false is in cc)
cut-some device (byte ∷ pending) (version ∷ earlier) failed noted id plain is = absurd (omega (arith, plain))
cut-some device (byte ∷ pending) [] failed noted id plain is =
    ap (λ (l : List ℕ). noted_behind l (Some id) noted (Some id)) (drop-front device (byte ∷ pending))
    ∙ ap (λ (b : Bool). b || noted (Some id)) (place-itself (Some id))

noted-pending : (m : Machine) (place : Option ℕ) → IsPlain m → is_so Pending (version_at m.files place) ≡ true
    → noted_at (map file_of m.files) place m.noted place ≡ true
noted-pending m None plain is = cc
noted-pending m (Some id) plain is =
    let file = get_or m.files id empty_held in
    ap (λ (x : File). noted_behind x.pending (Some id) m.noted (Some id)) (file_at m.files id)
    ∙ cut-some file.now.device file.now.pending file.earlier file.now.failed m.noted id (plain id) is

either-same : (b : Bool) (x y : Option ℕ → Bool) → x ≡ y → (if b then x else y) ≡ y
either-same true x y same = same
either-same false x y same = refl

wrote-note : (store : Bytes) (several : Bool) (m : Machine) → IsPlain m → (store ≡ Unsure → ⊥) → is_so store (under m Store) ≡ true
    → (store ≡ Pending → all_several (notes_of m) ≡ true) → IsExact several m
    → noted_by_write Store m m.now.store ≡ several_after store several
wrote-note Unsure several m plain sure is told exact = absurd (sure refl)
wrote-note OnDevice several m plain sure is told exact =
    ap (λ (f : Option ℕ → Bool). f m.now.store)
    (either-same (all_several (notes_of m)) (noted_at (map file_of m.files) m.now.store m.noted) m.noted
    (nothing-pending m m.now.store plain is)) ∙ exact
wrote-note Pending several m plain sure is told exact =
    ap (λ (b : Bool). (if b then noted_at (map file_of m.files) m.now.store m.noted else m.noted) m.now.store) (told refl)
    ∙ noted-pending m m.now.store plain is

pub store-exact : (store : Bytes) (several : Bool) (m : Machine) (bytes : List ℕ) → IsPlain m → (store ≡ Unsure → ⊥)
    → is_so store (under m Store) ≡ true → (store ≡ Pending → all_several (notes_of m) ≡ true) → IsExact several m
    → IsExact (several_after store several) (after (Write Store bytes) m)
store-exact store several m bytes plain sure is told exact =
    ap (λ (stage : Stage). noted_by_write Store m stage.store) (now-same m m.now.store (with_now (with_pending bytes)))
    ∙ wrote-note store several m plain sure is told exact
