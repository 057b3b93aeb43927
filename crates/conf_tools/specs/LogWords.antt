-- What `log` writes, and what it hides.
use Rattle.std.specs.{Prelude.{◌≡◌, ◌⊎◌, ℕ, List, [], ◌∷◌, map, Option, Ok, Err}, Borrow.Bor}
use Rattle.json_pointer.specs.declared.fault.PathFault.{PathFault, TheVariants.OutOfMemory as NoMemory}
use Rattle.{conf_state.specs.declared.fault.StoreFault.TheVariants.OutOfMemory, conf_words.specs.declared.invocation.Commands.Commands}
use Rattle.conf_words.specs.declared.invocation.LogForm.{LogForm as AskedLog, TheVariants.{Lines, Values, Json, Records}}
use Rattle.{conf_words.specs.Invocations.Word, tree_hidden.specs.{Pointers.paths_or, Tokens.paths_of}}
use Rattle.{yaml_data.specs.declared.text.Text.Text, conf_tools.specs.Prelude.{LogForm, LogRequest, Path, StoreFault}}
use Rattle.conf_tools.specs.declared.outcome.{Ending.{Ending, TheVariants.Of}, Outcome.TheVariants.Reading}
use Rattle.conf_tools.specs.{declared.reading_fault.ReadingFault.TheVariants.Value, StoreWords.{Reads, SaysLog}, Worlds.WorldModel}
use Rattle.conf_history.specs.declared.line.LineForm.{LineForm}
use Rattle.conf_history.specs.declared.line.LineForm.TheVariants as lines
use Rattle.conf_history.specs.declared.log.LogForm.TheVariants as history

-- the fault of a pointer that is to be hidden
abbrev pub fault_of_pointer : PathFault → StoreFault
fault_of_pointer NoMemory = OutOfMemory
fault_of_pointer fault = Path fault

-- why what is at these pointers can't be hidden: memory ran out, or one of them is none
abbrev pub CannotHide : List (List ℕ) → StoreFault → Type 0
CannotHide pointers fault =
    (fault ≡ OutOfMemory) ⊎ ((bad : PathFault) × (paths_or pointers ≡ Err bad) × (fault ≡ fault_of_pointer bad))

-- what a log of these commands in a form is asked for
abbrev pub request_of : LogForm → Commands → LogRequest
request_of form commands = record { form = form; name = commands.name; from = commands.from }

module _ {W D F P : Type 0} (world : WorldModel W D F P) (remaining : F → Option (List ℕ)) (folder : List ℕ)
    (commands : Commands) where
  -- the commands of the store in the folder were written in a form
  abbrev pub LogsAs : LogForm → W → W → Option (List ℕ) → Option (List ℕ) → Ending → Type 0
  LogsAs form old new held written ending =
      Reads world remaining folder (SaysLog commands.at (request_of form commands)) old new held written ending

  -- The same as lines, each with what its about has under some keys.
  pub record LogsLines (form : LineForm) (keys : List Word) (old new : W) (held written : Option (List ℕ)) (ending : Ending)
      : Type 0 where
    pub shown : Bor (List Word)
    pub are : shown.now ≡ keys
    pub logs : LogsAs (history.Lines form shown) old new held written ending

  module _ (keys : List Word) where
    -- They were written with their values, but for what is at these pointers of a configuration, or below them.
    pub record LogsHiding (pointers : List (List ℕ)) (old new : W) (held written : Option (List ℕ)) (ending : Ending)
        : Type 0 where
      pub paths : Bor (List (Bor (List Text)))
      pub are : paths_or pointers ≡ Ok (paths_of paths.now)
      pub logs : LogsLines (lines.Hiding paths) keys old new held written ending

    -- That can't be hidden: no folder was looked at, and nothing was written.
    pub record RefusesHiding (pointers : List (List ℕ)) (old new : W) (held written : Option (List ℕ)) (ending : Ending)
        : Type 0 where
      pub fault : StoreFault
      pub why : CannotHide pointers fault
      pub ends : ending ≡ Of (Reading (Value fault))
      pub world_stays : new ≡ old
      pub keeps : written ≡ held

    abbrev pub Hides : List (List ℕ) → W → W → Option (List ℕ) → Option (List ℕ) → Ending → Type 0
    Hides pointers old new held written ending =
        LogsHiding pointers old new held written ending ⊎ RefusesHiding pointers old new held written ending

    -- the same; all values, if nothing is hidden
    abbrev pub LogsValues : List (List ℕ) → W → W → Option (List ℕ) → Option (List ℕ) → Ending → Type 0
    LogsValues [] old new held written ending = LogsLines lines.Values keys old new held written ending
    LogsValues (pointer ∷ pointers) old new held written ending = Hides (pointer ∷ pointers) old new held written ending

  -- `log`
  abbrev pub Logs : AskedLog → W → W → Option (List ℕ) → Option (List ℕ) → Ending → Type 0
  Logs (Lines shown) old new held written ending = LogsLines lines.Names shown.items old new held written ending
  Logs (Values shown hidden) old new held written ending =
      LogsValues shown.items (map (λ pointer. pointer.now) hidden.items) old new held written ending
  Logs Json old new held written ending = LogsAs history.Json old new held written ending
  Logs Records old new held written ending = LogsAs history.Records old new held written ending
