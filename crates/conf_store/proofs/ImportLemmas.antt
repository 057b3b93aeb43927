-- What an import says of the name, the text and the tree.
use Rattle.std.proofs.Common.{◌≡◌, ◌+◌, ℕ, Bool, true, false, nat_le, nat_lt, if◌then◌else◌, List, Result, Ok, Err, refl, subst}
use Rattle.conf_store.proofs.Prelude.{byte_len, style_text, Tree, depth, config_limits, base_length, import_as, single, good_name, Entry}
use Rattle.conf_store.proofs.Prelude.{Contents, put_config, base_limit, count_limit, and_then, step, with_checked_config, with_room}
use Rattle.conf_store.proofs.Prelude.{next_state, StoreFault, EmptyBatch, BadName, NoConfig, Path, Read, TooDeep, ConfigLarge, StoreFull}
use Rattle.conf_store.proofs.Prelude.{RecordLong, JournalLong, CountFull, Reopen, Device, OutOfMemory, Room, Enough, LongRecord}
use Rattle.conf_store.specs.{View.StoreView, Accepting.IsOfState, Imports.{RefusesText, RefusesImport}, Calls.{room_for, journal_length}}
use Rattle.{conf_store.specs.Calls.RefusesCommand, yaml_tree.specs.Reading.IsRead, conf_state.specs.declared.room.Room.TheVariants.Missing}

-- a refusal that is neither of a name nor of a text
OfTree : {A : Type 0} → Result A StoreFault → Type 0
OfTree (Err BadName) = ⊥
OfTree (Err (Read fault)) = ⊥
OfTree _ = Unit {0}

next_state-of_tree : (s : Contents) (room : Room) (configs : List Entry) → OfTree (next_state s room configs)
unfolding OfTree
next_state-of_tree s room configs =
    by (nat_lt base_limit (base_length (record { configs = configs; count = s.count + 1 }))) room (nat_le count_limit s.count)
  where
    by : (full : Bool) (room : Room) (last : Bool)
        → OfTree {A = Contents} (if full then Err StoreFull
        else with_room room (if last then Err CountFull else Ok (record { configs = configs; count = s.count + 1 })))
    by true room last = tt
    by false LongRecord last = tt
    by false Missing last = tt
    by false Enough true = tt
    by false Enough false = tt

import-of_tree : (s : Contents) (name : List ℕ) (t : Tree) (room : Room)
    → OfTree (and_then (with_checked_config s.configs name t) (next_state s room))
unfolding OfTree
import-of_tree s name t room =
    by (nat_lt config_limits.depth (depth t)) refl (nat_lt config_limits.style (byte_len (style_text t))) refl
  where
    by : (deep : Bool) → nat_lt config_limits.depth (depth t) ≡ deep → (large : Bool)
        → nat_lt config_limits.style (byte_len (style_text t)) ≡ large
        → OfTree (and_then (with_checked_config s.configs name t) (next_state s room))
    by true e large f = rw e tt
    by false e true f = rw (e, f) tt
    by false e false f = rw (e, f) (next_state-of_tree s room (put_config s.configs name t))

step-of_tree : (s : Contents) (name : List ℕ) (t : Tree) (room : Room) → good_name name ≡ true
    → OfTree (step s (single (import_as name t)) room)
step-of_tree s name t room good = rw good (import-of_tree s name t room)

-- the import of a tree under a good name is refused for the tree
pub import-refused : {D : Type 0} (old new : StoreView D) (name source : List ℕ) (t : Tree) (fault : StoreFault)
    → good_name name ≡ true → IsRead source config_limits t
    → RefusesCommand old (single (import_as name t)) new fault → RefusesImport old name source new fault
unfolding OfTree
import-refused old new name source t Reopen good reads is = tt
import-refused old new name source t OutOfMemory good reads is = tt
import-refused old new name source t BadName good reads is =
    absurd (subst OfTree is (step-of_tree old.state name t (room_for (journal_length old) old.state (single (import_as name t))) good))
import-refused old new name source t (Read fault) good reads is =
    absurd (subst OfTree is (step-of_tree old.state name t (room_for (journal_length old) old.state (single (import_as name t))) good))
import-refused old new name source t EmptyBatch good reads is = record { tree = t; reads = reads; refuses = is }
import-refused old new name source t NoConfig good reads is = record { tree = t; reads = reads; refuses = is }
import-refused old new name source t (Path fault) good reads is = record { tree = t; reads = reads; refuses = is }
import-refused old new name source t TooDeep good reads is = record { tree = t; reads = reads; refuses = is }
import-refused old new name source t ConfigLarge good reads is = record { tree = t; reads = reads; refuses = is }
import-refused old new name source t StoreFull good reads is = record { tree = t; reads = reads; refuses = is }
import-refused old new name source t RecordLong good reads is = record { tree = t; reads = reads; refuses = is }
import-refused old new name source t JournalLong good reads is = record { tree = t; reads = reads; refuses = is }
import-refused old new name source t CountFull good reads is = record { tree = t; reads = reads; refuses = is }
import-refused old new name source t Device good reads is = record { tree = t; reads = reads; refuses = is }

-- an import without a command is refused for the same reason
pub unread-refused : {D : Type 0} (old new : StoreView D) (name source : List ℕ) (fault : StoreFault)
    → RefusesText name source fault → RefusesImport old name source new fault
unread-refused old new name source OutOfMemory is = tt
unread-refused old new name source BadName is = is
unread-refused old new name source (Read fault) is = is
unread-refused old new name source Reopen is = absurd is
unread-refused old new name source EmptyBatch is = absurd is
unread-refused old new name source NoConfig is = absurd is
unread-refused old new name source (Path fault) is = absurd is
unread-refused old new name source TooDeep is = absurd is
unread-refused old new name source ConfigLarge is = absurd is
unread-refused old new name source StoreFull is = absurd is
unread-refused old new name source RecordLong is = absurd is
unread-refused old new name source JournalLong is = absurd is
unread-refused old new name source CountFull is = absurd is
unread-refused old new name source Device is = absurd is

-- and never for the store or the device
pub unread-of_state : (name source : List ℕ) (fault : StoreFault) → RefusesText name source fault → IsOfState fault
unread-of_state name source fault is = (λ same. subst (RefusesText name source) same is, λ same. subst (RefusesText name source) same is)
