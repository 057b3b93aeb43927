-- A folder of one stage that reads as empty.
use Rattle.std.proofs.Common.{◌≡◌, sym, ap, subst, refl, arith, ℕ, List, [], ◌∷◌, ◌++◌, length, map, Option, Some, None, length-append}
use Rattle.std.specs.List.{Contains}
use Rattle.conf_disk.specs.{Folder.{File, Stage, bytes_at, bytes_under}, Image.IsTornAt, declared.disk.Name.{Name, TheVariants.Store}}
use Rattle.{conf_disk.specs.declared.disk.Name.TheVariants.Next, conf_system.specs.{Machine.{Machine, stages}, Folders.folder_of}}
use Rattle.{conf_system.{specs.Folders.{stages_before, stage_of}, proofs.Torn.the_only}, conf_protocol.specs.Keeps.IsSafe}
use Rattle.{test_system.specs.Replay.new_machine, test_worlds.specs.Entries.IsBlank}

none-at : (files : List File) (place : Option ℕ) (left : Option (List ℕ))
    → bytes_at files place ≡ None → IsTornAt files place left → left ≡ None
none-at files None None is torn = refl
none-at files None (Some bytes) is torn = absurd torn
none-at files (Some id) left is torn = cc

no_more : {X : Type 0} (xs : List X) → length xs ≡ 0 → xs ≡ []
no_more [] is = refl
no_more (x ∷ xs) is = cc

pub blank : (m : Machine) → length (stages m) ≡ 1 → bytes_under (folder_of m) Store ≡ None → bytes_under (folder_of m) Next ≡ None
    → IsBlank (folder_of m)
blank m one store next image left =
    let count : length m.earlier ≡ 0 = omega (arith, one, length-append m.earlier (m.now ∷ [])) in
    let folder = folder_of m in
    let none : folder.earlier ≡ [] = ap (λ (l : List Stage). stages_before (map stage_of l) (stage_of m.now)) (no_more m.earlier count) in
    let at : left.stage ≡ folder.now =
    the_only left.stage folder.now (subst (λ (l : List Stage). Contains (l ++ folder.now ∷ []) left.stage) none left.among) in (
      none-at folder.files folder.now.store image.store store
          (subst (λ (s : Stage). IsTornAt folder.files s.store image.store) at left.store),
      none-at folder.files folder.now.next image.next next
          (subst (λ (s : Stage). IsTornAt folder.files s.next image.next) at left.next),
    )

-- on a new machine a run may build, and no name leads anywhere
pub new-safe : (m : Machine) → m ≡ new_machine → IsSafe m
new-safe m new = subst IsSafe (sym new) (λ told. cc)

pub new-reads : (m : Machine) (name : Name) → m ≡ new_machine → bytes_under (folder_of m) name ≡ None
new-reads m Store new = ap (λ (n : Machine). bytes_under (folder_of n) Store) new
new-reads m Next new = ap (λ (n : Machine). bytes_under (folder_of n) Next) new
