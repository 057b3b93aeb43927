-- README's first example: four commands, and what the last one prints.
use Rattle.std.specs.Prelude.{◌≡◌, ℕ, List, [], ◌∷◌, codes, Option, None, Some}
use Rattle.{conf_disk.specs.{Image.Image, Models.DiskModel}, conf_words.specs.declared.invocation.Invocation.{Invocation, TheVariants.Get}}
use Rattle.conf_words.specs.declared.invocation.{Invocation.TheVariants.{Import, Init, Set}, Placing.TheVariants.AtPlace}
use Rattle.conf_words.specs.declared.invocation.{TreeForm.TheVariants.Styled, Value.{Value, TheVariants.Text}, ValueForm.TheVariants.Whole}
use Rattle.conf_tools.specs.{Performs.Performs, Reads.pointers_of, Worlds.{Around, WorldModel}, declared.program.Status.Status}
use Rattle.{conf_tools.specs.declared.program.Status.TheVariants.Done, conf_runs.specs.{Folders.KeepsFolders, FoldersRead.ShowsFolders}}
use Rattle.conf_runs.specs.{Reads.Shows, Runs.{AreRuns, Event, returned}}

-- confstore init shop
abbrev pub SaysInit : Invocation → Type 0
SaysInit (Init folder) = folder.now ≡ codes "shop"
SaysInit invocation = ⊥

-- confstore import shop web
abbrev pub SaysImport : Invocation → Type 0
SaysImport (Import asked about reporting) =
    (asked.folder.now ≡ codes "shop") × (asked.name.now ≡ codes "web") × (asked.file.now ≡ codes "-")
SaysImport invocation = ⊥

-- a value that is this text
abbrev pub IsText : Value → List ℕ → Type 0
IsText (Text word) bytes = word.now ≡ bytes
IsText value bytes = ⊥

-- confstore set shop web /port 81
abbrev pub SaysSet : Invocation → Type 0
SaysSet (Set target put None reporting) =
    (target.folder.now ≡ codes "shop") × (target.name.now ≡ codes "web") × (target.pointer.now ≡ codes "/port")
    × (put.placing ≡ AtPlace) × IsText put.value (codes "81")
SaysSet invocation = ⊥

-- confstore get shop web
abbrev pub SaysGet : Invocation → Type 0
SaysGet (Get folder places missing (Whole Styled)) =
    (folder.now ≡ codes "shop") × (places.name.now ≡ codes "web") × (places.at ≡ None)
    × (pointers_of places.pointers.items ≡ [] ∷ [])
SaysGet invocation = ⊥

module _ {W D F P : Type 0} (world : WorldModel W D F P) (disk : DiskModel D) (remaining : F → Option (List ℕ))
    (honest : disk.honest) (leaves : W → List ℕ → Image → Type 0) where
  abbrev Run : Type 0
  Run = Event world disk remaining honest leaves (codes "shop")

  -- these words were said, and done
  pub record IsDone (Says : Invocation → Type 0) (run : Run) : Type 0 where
    pub says : Says run.invocation
    pub ended : run.ending ≡ returned
    pub done : run.status ≡ Done

  -- The first three commands were done, the second one with `port: 80` as its input. Then the last one prints
  -- `port: "81"`, whether crashes came after any of them, or none did.
  abbrev pub FirstExample : Type 0
  FirstExample = KeepsFolders world disk leaves → ShowsFolders world remaining leaves
      → (init import set : Run) → IsDone SaysInit init → IsDone SaysImport import → import.old.input ≡ Some (codes "port: 80\n")
      → IsDone SaysSet set
      → (get : Invocation) (old new : Around W) (status : Status)
      (does : Performs world disk remaining get old new status) → SaysGet get
      → AreRuns world disk remaining honest leaves (codes "shop") (leaves init.old.world (codes "shop"))
      (init ∷ import ∷ set ∷ []) (leaves old.world (codes "shop"))
      → Shows world disk remaining honest leaves (codes "shop") (codes "web") [] (codes "port: \"81\"\n") get old new status does
