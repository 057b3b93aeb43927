-- What a step is refused for, and that an accepted command had room in the journal.
use Rattle.std.proofs.Common.{◌≡◌, ℕ, ◌+◌, Bool, true, false, nat_le, nat_lt, if◌then◌else◌, List, [], ◌∷◌, Option, Some, None, Result, Ok}
use Rattle.std.proofs.Common.{Err, refl, subst}
use Rattle.conf_state.proofs.Prelude.{byte_len, style_text, Tree, depth, set, delete, path_of, PathFault, config_limits}
use Rattle.conf_state.{proofs.RunLaws.and_then-Ok, specs.{BaseTexts.base_length, Names.good_name, declared.fault.StoreFault.StoreFault}}
use Rattle.conf_state.specs.declared.{fault.StoreFault.TheVariants.{BadName, TooDeep, ConfigLarge, StoreFull, CountFull}, room.Room.Room}
use Rattle.conf_state.specs.{declared.room.Room.TheVariants.{Enough, LongRecord, Missing}, Commands.{Edit, import_as, set_at, delete_at}}
use Rattle.conf_state.specs.{Commands.{Command, single, batch, noted, name_of}, States.{Entry, Contents, config_named, base_limit}}
use Rattle.conf_state.specs.{States.count_limit, Steps.{IsRefusal, step, edited, all_edited, performed, configs_after, with_room}}
use Rattle.conf_state.specs.Steps.{next_state, and_then, checked_tree, with_checked_config, found, by_path, configs_after_delete}

-- ---- room in the journal

next_state-room : (s new : Contents) (room : Room) (configs : List Entry) → next_state s room configs ≡ Ok new → room ≡ Enough
next_state-room s new room configs e =
    by (nat_lt base_limit (base_length (record { configs = configs; count = s.count + 1 }))) room e
  where
    by : (full : Bool) (r : Room)
        → (if full then Err StoreFull else with_room r
        (if nat_le count_limit s.count then Err CountFull else Ok (record { configs = configs; count = s.count + 1 }))) ≡ Ok new
        → r ≡ Enough
    by true r is = cc
    by false Enough is = refl
    by false LongRecord is = cc
    by false Missing is = cc

-- a command is accepted only where there is room for its record
pub accepted-room : (s new : Contents) (command : Command) (room : Room) → step s command room ≡ Ok new → room ≡ Enough
accepted-room s new command room e =
    let done = and_then-Ok (performed s.configs command) (next_state s room) new e in next_state-room s new room done.0 done.2

-- ---- refusals

Refusals : {A : Type 0} → Result A StoreFault → Type 0
Refusals (Ok x) = Unit {0}
Refusals (Err fault) = IsRefusal fault

refusals-then : {A B : Type 0} (r : Result A StoreFault) (next : A → Result B StoreFault) → Refusals r
    → ((x : A) → Refusals (next x)) → Refusals (and_then r next)
unfolding Refusals
refusals-then (Ok x) next is more = more x
refusals-then (Err fault) next is more = is

refusals-if : {A : Type 0} (b : Bool) (r q : Result A StoreFault) → Refusals r → Refusals q → Refusals (if b then r else q)
refusals-if true r q one other = one
refusals-if false r q one other = other

checked_tree-refusals : (t : Tree) → Refusals (checked_tree t)
unfolding Refusals
checked_tree-refusals t =
    let large = nat_lt config_limits.style (byte_len (style_text t)) in
    refusals-if {A = Tree} (nat_lt config_limits.depth (depth t)) (Err TooDeep) (if large then Err ConfigLarge else Ok t) tt
    (refusals-if {A = Tree} large (Err ConfigLarge) (Ok t) tt tt)

with_checked_config-refusals : (configs : List Entry) (name : List ℕ) (t : Tree) → Refusals (with_checked_config configs name t)
unfolding Refusals
with_checked_config-refusals configs name t = refusals-then (checked_tree t) _ (checked_tree-refusals t) (λ u. tt)

found-refusals : (o : Option Tree) → Refusals (found o)
unfolding Refusals
found-refusals None = tt
found-refusals (Some t) = tt

path-refusals : {A : Type 0} (r : Result A PathFault) → Refusals (by_path r)
unfolding Refusals
path-refusals (Ok x) = tt
path-refusals (Err fault) = tt

configs_after_delete-refusals : (configs : List Entry) (name : List ℕ) (t : Tree) (tokens : List (List ℕ))
    → Refusals (configs_after_delete configs name t tokens)
unfolding Refusals
configs_after_delete-refusals configs name t [] = tt
configs_after_delete-refusals configs name t (token ∷ tokens) =
    refusals-then (by_path (delete t (token ∷ tokens))) (with_checked_config configs name)
    (path-refusals (delete t (token ∷ tokens))) (with_checked_config-refusals configs name)

configs-refusals : (configs : List Entry) (edit : Edit) → Refusals (configs_after configs edit)
configs-refusals configs (import_as name tree) = with_checked_config-refusals configs name tree
configs-refusals configs (set_at name path value) =
    refusals-then (found (config_named configs name)) _ (found-refusals (config_named configs name)) (λ t.
    refusals-then (by_path (path_of path)) _ (path-refusals (path_of path)) (λ tokens.
    refusals-then (by_path (set t tokens value)) (with_checked_config configs name)
    (path-refusals (set t tokens value)) (with_checked_config-refusals configs name)))
configs-refusals configs (delete_at name path) =
    refusals-then (found (config_named configs name)) _ (found-refusals (config_named configs name)) (λ t.
    refusals-then (by_path (path_of path)) (configs_after_delete configs name t) (path-refusals (path_of path))
    (configs_after_delete-refusals configs name t))

edited-refusals : (configs : List Entry) (edit : Edit) → Refusals (edited configs edit)
unfolding Refusals
edited-refusals configs edit =
    refusals-if (good_name (name_of edit)) (configs_after configs edit) (Err BadName) (configs-refusals configs edit) tt

all_edited-refusals : (configs : List Entry) (edits : List Edit) → Refusals (all_edited configs edits)
unfolding Refusals
all_edited-refusals configs [] = tt
all_edited-refusals configs (edit ∷ edits) =
    refusals-then (edited configs edit) (λ next. all_edited next edits) (edited-refusals configs edit)
    (λ next. all_edited-refusals next edits)

performed-refusals : (configs : List Entry) (command : Command) → Refusals (performed configs command)
unfolding Refusals
performed-refusals configs (single edit) = edited-refusals configs edit
performed-refusals configs (batch []) = tt
performed-refusals configs (batch (edit ∷ edits)) = all_edited-refusals configs (edit ∷ edits)
performed-refusals configs (noted command about) = performed-refusals configs command

room-refusals : {A : Type 0} (room : Room) (r : Result A StoreFault) → Refusals r → Refusals (with_room room r)
unfolding Refusals
room-refusals Enough r is = is
room-refusals LongRecord r is = tt
room-refusals Missing r is = tt

next_state-refusals : (s : Contents) (room : Room) (configs : List Entry) → Refusals (next_state s room configs)
unfolding Refusals
next_state-refusals s room configs =
    let new : Contents = record { configs = configs; count = s.count + 1 } in
    let last : Result Contents StoreFault = if nat_le count_limit s.count then Err CountFull else Ok new in
    refusals-if {A = Contents} (nat_lt base_limit (base_length new)) (Err StoreFull) (with_room room last) tt
    (room-refusals {A = Contents} room last (refusals-if {A = Contents} (nat_le count_limit s.count) (Err CountFull) (Ok new) tt tt))

step-refusals : (s : Contents) (command : Command) (room : Room) → Refusals (step s command room)
step-refusals s command room =
    refusals-then (performed s.configs command) (next_state s room) (performed-refusals s.configs command) (next_state-refusals s room)

-- a fault with which a step refuses is one of a command and a state
pub step-refusal : (s : Contents) (command : Command) (room : Room) (fault : StoreFault) → step s command room ≡ Err fault → IsRefusal fault
unfolding Refusals
step-refusal s command room fault e = subst Refusals e (step-refusals s command room)
