-- What `diff --files` does: it compares the texts of two files.
use Rattle.std.specs.Prelude.{◌≡◌, ◌⊎◌, ◌==◌, ◌||◌, ℕ, Bool, false, true, not, List, [], ◌∷◌, Option, Result, Ok, Err, IfOk, IfErr}
use Rattle.std.specs.Prelude.{if◌then◌else◌}
use Rattle.{conf_diff.specs.StateEdits.tree_edits, conf_state.specs.{Names.good_name, declared.fault.StoreFault.TheVariants.OutOfMemory}}
use Rattle.conf_tools.specs.{Prelude.{BadName, IsRead, Refuses, StoreFault, chars, config_limits, tree_of}, Diffs.RefusesEdits}
use Rattle.conf_tools.specs.{Diffs.WritesEdits, Endings.{EndsWith, ending_after_diff}, TextWords.TakesText, Tools.Taken, Worlds.Around}
use Rattle.conf_tools.specs.{Worlds.{WorldModel, around_noting}, declared.{diffs.Sameness.Sameness, outcome.Ending.Ending}}
use Rattle.conf_tools.specs.declared.{outcome.Ending.TheVariants.Of, reading_fault.ReadingFault.{ReadingFault, TheVariants.Value}}
use Rattle.{conf_tools.specs.declared.texts.ToolFault.{ToolFault, TheVariants.Read}, yaml_data.specs.declared.tree.Tree.Tree}
use Rattle.conf_tools.specs.declared.outcome.Outcome.TheVariants as outcome

-- ---- the name of a file

-- one of the characters is a slash
abbrev pub has_slash : List ℕ → Bool
has_slash [] = false
has_slash (c ∷ cs) = (c == 47) || has_slash cs

-- what stands behind the last slash; all if there is none
abbrev pub behind_slashes : List ℕ → List ℕ
behind_slashes [] = []
behind_slashes (c ∷ cs) = if has_slash (c ∷ cs) then behind_slashes cs else c ∷ cs

-- what stands before the first dot; all if there is none
abbrev pub before_dot : List ℕ → List ℕ
before_dot [] = []
before_dot (c ∷ cs) = if c == 46 then [] else c ∷ before_dot cs

-- the name that the file at a path has up to its first dot
abbrev pub file_name : List ℕ → List ℕ
file_name path = before_dot (behind_slashes path)

-- one of the characters is a dot
abbrev pub has_dot : List ℕ → Bool
has_dot [] = false
has_dot (c ∷ cs) = (c == 46) || has_dot cs

-- this is the name in a path that has these characters, and whether it goes on: no dot has come behind the last slash
pub record IsNameOf (path name : List ℕ) (goes_on : Bool) : Type 0 where
  pub is : name ≡ file_name path
  pub open_end : goes_on ≡ not (has_dot (behind_slashes path))

-- ---- the two texts

-- the bytes give a configuration, or why not
abbrev pub GivesConfig : List ℕ → Result Tree ToolFault → Type 0
GivesConfig bytes (Ok config) = IsRead bytes config_limits (tree_of config)
GivesConfig bytes (Err (Read fault)) = Refuses bytes config_limits fault
GivesConfig bytes (Err fault) = ⊥

-- the same of a text that was read; where none was, that is why
abbrev pub IsConfigOf : Taken → Result Tree ToolFault → Type 0
IsConfigOf (Ok text) config = GivesConfig text.items config
IsConfigOf (Err fault) config = config ≡ Err fault

-- the edits between two trees under a name were written, or not all; and that is how the word ends
pub record DiffsTrees (name : List ℕ) (first second : Tree) (held written : Option (List ℕ)) (ending : Ending) : Type 0 where
  pub result : Result Sameness ReadingFault
  pub ends : ending ≡ ending_after_diff result
  pub done : IfOk result (WritesEdits (tree_edits name (tree_of first) (tree_of second)) held written)
  pub refused : IfErr result (RefusesEdits (tree_edits name (tree_of first) (tree_of second)) held written)

module _ {W D F P : Type 0} (world : WorldModel W D F P) (remaining : F → Option (List ℕ)) where
  -- the text of a file, or the input for `-`, was read, and gives a configuration, or why not
  pub record ReadsConfig (path : List ℕ) (old new : W) (given left : Option (List ℕ)) (config : Result Tree ToolFault)
      : Type 0 where
    pub read : Taken
    pub takes : TakesText world remaining path read old new given left
    pub is : IsConfigOf read config

  -- what is done with the second text, once it was read
  abbrev pub DiffsSecond : List ℕ → Tree → Result Tree ToolFault → Option (List ℕ) → Option (List ℕ) → Ending → Type 0
  DiffsSecond name first (Ok second) held written ending = DiffsTrees name first second held written ending
  DiffsSecond name first (Err fault) held written ending = (written ≡ held) × EndsWith fault ending

  -- the second text was read, and the two were compared
  pub record ReadsSecond (name path : List ℕ) (first : Tree) (old new : Around W) (ending : Ending) : Type 0 where
    pub second : Result Tree ToolFault
    pub reads : ReadsConfig path old.world new.world old.input new.input second
    pub diffs : DiffsSecond name first second old.output new.output ending

  -- the same, where the first text gives a configuration; else nothing more is read
  abbrev pub DiffsAfter : List ℕ → List ℕ → Result Tree ToolFault → Around W → Around W → Ending → Type 0
  DiffsAfter name path (Ok first) old new ending = ReadsSecond name path first old new ending
  DiffsAfter name path (Err fault) old new ending = (new ≡ old) × EndsWith fault ending

  -- the first text was read, and then the second one, and they were compared under a name that may be used
  pub record DiffsNamed (name first second : List ℕ) (old new : Around W) (ending : Ending) : Type 0 where
    pub named : good_name name ≡ true
    pub one : Result Tree ToolFault
    pub seen : W
    pub left : Option (List ℕ)
    pub reads : ReadsConfig first old.world seen old.input left one
    pub diffs : DiffsAfter name second one (around_noting seen left old.output old.handings) new ending

  -- no configuration may have the name of the file, or memory ran out; nothing was read or written
  pub record CannotDiff (name : List ℕ) (old new : Around W) (ending : Ending) : Type 0 where
    pub fault : StoreFault
    pub why : (fault ≡ OutOfMemory) ⊎ ((fault ≡ BadName) × (good_name name ≡ false))
    pub ends : ending ≡ Of (outcome.Reading (Value fault))
    pub stays : new ≡ old

  -- `diff --files`: the edits have the name of the second file
  abbrev pub DiffsFiles : List ℕ → List ℕ → Around W → Around W → Ending → Type 0
  DiffsFiles first second old new ending =
      CannotDiff (file_name (chars second)) old new ending
      ⊎ DiffsNamed (file_name (chars second)) first second old new ending
