-- A place of the code is set.
use Rattle.std.proofs.{Common.{◌≡◌, ℕ, ◌<◌, List, length, get_or, set, map, sym, ◌∙◌, ap, subst, arith, Option}, lemmas.List.map-set}
use Rattle.std.{proofs.lemmas.List.{get_or-map, length-map, set-get_or}, specs.Prelude.string_bytes}
use Rattle.{conf_disk.specs.{Folder.Folder, Models.DiskModel}, test_worlds.specs.Entries.{Entry, Changes, entry_at, no_entry}}
use Rattle.test_worlds.{specs.{Places.{entry_of, folder_in}, declared.places.Place.Place}, proofs.Keeping.set-changes}

module _ {D : Type 0} (model : DiskModel D) where
  -- the entry of a place
  pub entry-at : (xs : List (Place D)) (i : ℕ) (x : Place D) → i < length xs → x ≡ get_or xs i x
      → entry_at (map (entry_of model) xs) i ≡ entry_of model x
  entry-at xs i x within at = get_or-map (entry_of model) xs i x no_entry within ∙ ap (entry_of model) (sym at)

  pub place-changes : (xs : List (Place D)) (i : ℕ) (x y : Place D) (folder : Option Folder) → i < length xs → x ≡ get_or xs i x
      → string_bytes y.path ≡ string_bytes x.path → folder_in model y ≡ folder
      → Changes (map (entry_of model) xs) (map (entry_of model) (set xs i y)) i folder
  place-changes xs i x y folder within at path is =
      let within_entries : i < length (map (entry_of model) xs) = omega (arith, within, length-map xs (entry_of model)) in
      let same : string_bytes y.path ≡ (entry_at (map (entry_of model) xs) i).path =
      path ∙ sym (ap (λ (e : Entry). e.path) (entry-at xs i x within at)) in
      subst (λ (f : Option Folder). Changes (map (entry_of model) xs) (map (entry_of model) (set xs i y)) i f) is
      (subst (λ (l : List Entry). Changes (map (entry_of model) xs) l i (folder_in model y)) (sym (map-set (entry_of model) xs i y))
      (set-changes (map (entry_of model) xs) i (entry_of model y) within_entries same))

  -- a place that is set as it was
  pub place-same : (xs : List (Place D)) (i : ℕ) (x y : Place D) → i < length xs → x ≡ get_or xs i x
      → entry_of model y ≡ entry_of model x → map (entry_of model) (set xs i y) ≡ map (entry_of model) xs
  place-same xs i x y within at same =
      map-set (entry_of model) xs i y
      ∙ ap (λ (e : Entry). set (map (entry_of model) xs) i e) (same ∙ sym (entry-at xs i x within at))
      ∙ set-get_or (map (entry_of model) xs) i no_entry

  -- a place with the same path and the same folder
  pub same-entry : (x y : Place D) → string_bytes y.path ≡ string_bytes x.path → folder_in model y ≡ folder_in model x
      → entry_of model y ≡ entry_of model x
  same-entry x y path folder =
      ap (λ (p : List ℕ). record { path = p; folder = folder_in model y }) path
      ∙ ap (λ (f : Option Folder). record { path = string_bytes x.path; folder = f }) folder
