-- What the calls of an open store return, and how they change it.
use Rattle.std.specs.Prelude.{◌≡◌, ◌⊎◌, ℕ, ◌+◌, ◌<◌, ◌≤◌, min, max, Bool, true, false, ◌&&◌, not, if◌then◌else◌, List, ◌++◌, length, Option}
use Rattle.std.specs.Prelude.{None, Result, Ok, Err}
use Rattle.conf_store.specs.Prelude.{greatest, store_limit, Command, may_be_long, Contents, config_named, count_limit, Tree, style_text, at}
use Rattle.conf_store.specs.Prelude.{good_name, room_of, step, and_then, found, by_path, StoreFault, BadName, Reopen, Device, OutOfMemory}
use Rattle.conf_store.specs.{Prelude.{Room, record_bytes, has_about}, Staged.{Staged, staged_length, with_more}, View.{StoreView, is_third}}
use Rattle.conf_record.specs.{Formats.base_in, declared.format.Format.{Format, TheVariants.Third}}

-- The number of the next record. At the greatest count it is that count, which has as many digits as the number after
-- it.
abbrev pub next_number : Contents → ℕ
next_number s = min (s.count + 1) count_limit

-- the bytes of the next command's record
abbrev pub next_record : Contents → Command → List ℕ
next_record s command = record_bytes command (next_number s)

-- the next command's record is as long as the one with the number after the count, also at the greatest count
abbrev pub RecordsAreMeasured : Type 0
RecordsAreMeasured = (s : Contents) (command : Command) → s.count ≤ count_limit
    → length (next_record s command) ≡ length (record_bytes command (s.count + 1))

-- the room for the command's record in a `store.yaml` of `size` bytes
abbrev pub room_for : ℕ → Contents → Command → Room
room_for size s command = room_of (may_be_long command) (length (next_record s command)) size store_limit

-- the state after the command, or the first refusal that holds
abbrev pub outcome : ℕ → Contents → Command → Result Contents StoreFault
outcome size s command = step s command (room_for size s command)

-- The length that JournalLong looks at: of `store.yaml`, or of the new file of a running checkpoint, if that is longer.
abbrev pub journal_length : {D : Type 0} → StoreView D → ℕ
journal_length seen = max seen.size (staged_length seen.staged)

-- ---- how a record gets into the file

-- A record with an about needs a base of the third format before it. Where the base is of another one, the file is
-- renewed: it becomes a base of the state before the command, in the third format, and the record.
abbrev pub renews : Format → Command → Bool
renews format command = has_about command && not (is_third format)

-- that new file
abbrev pub renewed_file : Contents → Command → List ℕ
renewed_file s command = base_in Third s ++ next_record s command

-- The length of `store.yaml` with the record of the next command. Where the file is not renewed, it grows by the record.
abbrev pub size_with : (renewed : Bool) → ℕ → Contents → Command → ℕ
size_with false size s command = size + length (next_record s command)
size_with true size s command = length (renewed_file s command)

-- the running checkpoint, whose new file grows by the record, too; where `store.yaml` is renewed, it is given up
abbrev pub staged_with : (renewed : Bool) → Option Staged → List ℕ → Option Staged
staged_with false staged bytes = with_more bytes staged
staged_with true staged bytes = None

-- the format of the base
abbrev pub format_with : (renewed : Bool) → Format → Format
format_with false format = format
format_with true format = Third

-- The command was accepted: the state is the one after it, the count rose by one, and its record is in the file, and in
-- the new file of a running checkpoint.
pub record AcceptsBy {D : Type 0} (renewed : Bool) (old : StoreView D) (command : Command) (new : StoreView D)
    : Type 0 where
  pub step : outcome (journal_length old) old.state command ≡ Ok new.state
  pub count : new.state.count ≡ old.state.count + 1
  pub size : new.size ≡ size_with renewed old.size old.state command
  pub staged : new.staged ≡ staged_with renewed old.staged (next_record old.state command)
  pub format : new.format ≡ format_with renewed old.format
  pub reopen : new.reopen ≡ false

abbrev pub Accepts : {D : Type 0} → StoreView D → Command → StoreView D → Type 0
Accepts old command new = AcceptsBy (renews old.format command) old command new

-- Why a command was refused. At Device the state is the one after the command: Device is never returned for a command
-- that the state refuses. Reopen and OutOfMemory say nothing of the command.
abbrev pub RefusesCommand : {D : Type 0} → StoreView D → Command → StoreView D → StoreFault → Type 0
RefusesCommand old command new Reopen = Unit {0}
RefusesCommand old command new OutOfMemory = Unit {0}
RefusesCommand old command new Device = outcome (journal_length old) old.state command ≡ Ok new.state
RefusesCommand old command new fault = outcome (journal_length old) old.state command ≡ Err fault

-- the device failed during the call, or its failures were at their greatest number before
abbrev pub HasFailed : ℕ → ℕ → Type 0
HasFailed before now = (before < now) ⊎ (before ≡ greatest)

-- ---- reading

-- the tree under a name, or BadName or NoConfig
abbrev pub tree_named : Contents → List ℕ → Result Tree StoreFault
tree_named s name = if good_name name then found (config_named s.configs name) else Err BadName

-- the tree at a path in the configuration under a name
abbrev pub tree_at : Contents → List ℕ → List (List ℕ) → Result Tree StoreFault
tree_at s name path = and_then (tree_named s name) (λ t. by_path (at t path))

-- `written` is the tree under the name in the one style
pub record Exports (s : Contents) (name written : List ℕ) : Type 0 where
  pub tree : Tree
  pub is : tree_named s name ≡ Ok tree
  pub style : written ≡ style_text tree
