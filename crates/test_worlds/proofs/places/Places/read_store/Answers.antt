use Rattle.std.{proofs.Common.{◌≡◌, ℕ, List, Option, Result, Ok, Err, ap, subst, sym}, specs.Prelude.IfOk}
use Rattle.{conf_disk.specs.Folder.Folder, test_worlds.specs.{Entries.{Entry, IsFirst, entry_at}, Places.{entries_of, folder_in}}}
use Rattle.test_worlds.{specs.{Shown.{ShowsIn, ShowsAt}, declared.file.MemoryFile.MemoryFile}, proofs.Setting.{entry-at, place-same}}
use Rattle.test_worlds.proofs.Setting.{same-entry}
use Rattle.test_worlds.proofs.places.Places.read_store.Goals as goal

shown-at : {E : Type 0} (result : Result (Option MemoryFile) E) (entries : List Entry) (path : List ℕ) (place : ℕ)
    → IsFirst entries path place → (folder : Option Folder) → (entry_at entries place).folder ≡ folder
    → IfOk result (ShowsIn folder) → IfOk result (ShowsAt entries path)
shown-at (Ok file) entries path place first folder is shown = record {
  place = place;
  first = first;
  shows = subst (λ (f : Option Folder). ShowsIn f file) (sym is) shown;
}
shown-at (Err fault) entries path place first folder is shown = shown

pub returns-in-Some-clause-same : goal.returns-in-Some-clause-same
returns-in-Some-clause-same g c honest =
    place-same g.D.Disk.model c.args.self.now.places.items c.in-Some.place c.index_mut.result.now c.read_store.new.self
    c.in-Some.ensures.within c.index_mut.ensures.value
    (same-entry g.D.Disk.model c.index_mut.result.now c.read_store.new.self c.read_store.ensures.path
    (c.read_store.ensures.same honest))

pub returns-in-Some-clause-shows : goal.returns-in-Some-clause-shows
returns-in-Some-clause-shows g c honest =
    let model = g.D.Disk.model in
    let was = c.index_mut.result.now in
    shown-at c.read_store.result (entries_of model c.args.self.now) c.args.path.now c.in-Some.place c.in-Some.ensures.found
    (folder_in model was)
    (ap (λ (e : Entry). e.folder)
    (entry-at model c.args.self.now.places.items c.in-Some.place was c.in-Some.ensures.within c.index_mut.ensures.value))
    (c.read_store.ensures.shows honest)
