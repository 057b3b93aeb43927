-- A command changes no configuration but those under the names of its edits.
use Rattle.std.proofs.Common.{◌≡◌, ◌+◌, Bool, true, false, nat_le, nat_lt, if◌then◌else◌, List, ℕ, [], ◌∷◌, Ok, Err, map, sym, ap, ◌∙◌}
use Rattle.conf_state.proofs.{Prelude.{same_text, Tree, path_of, set, delete}, DraftLemmas.{named-put-other, named-cut-other}}
use Rattle.conf_state.{proofs.RunLaws.and_then-Ok, specs.{Names.good_name, BaseTexts.base_length, Touched.touched, declared.room.Room.Room}}
use Rattle.conf_state.specs.declared.{room.Room.TheVariants.{Enough, LongRecord, Missing}, fault.StoreFault.TheVariants.StoreFull}
use Rattle.conf_state.specs.{declared.fault.StoreFault.TheVariants.{CountFull, BadName, EmptyBatch}, Commands.{Edit, import_as, set_at}}
use Rattle.conf_state.specs.{Commands.{delete_at, Command, single, batch, noted, name_of}, States.{Entry, Contents, config_named}}
use Rattle.conf_state.specs.{States.{put_config, cut_config, base_limit, count_limit}, Steps.{and_then, found, by_path, checked_tree}}
use Rattle.conf_state.specs.Steps.{with_checked_config, configs_after_delete, configs_after, edited, all_edited, performed, with_room}
use Rattle.conf_state.specs.Steps.{next_state, step}

-- the name is none of these
abbrev pub IsNoneOf : List ℕ → List (List ℕ) → Type 0
IsNoneOf n [] = Unit {0}
IsNoneOf n (m ∷ ms) = (same_text n m ≡ false) × IsNoneOf n ms

module _ (n : List ℕ) where
  -- where a tree is put under another name
  checked-other : (es new : List Entry) (m : List ℕ) (t : Tree) → same_text n m ≡ false → with_checked_config es m t ≡ Ok new
      → config_named new n ≡ config_named es n
  checked-other es new m t other e =
      let done = and_then-Ok (checked_tree t) (λ u. Ok (put_config es m u)) new e in
      let same : put_config es m done.0 ≡ new = (let ok : Ok (put_config es m done.0) ≡ Ok new = done.2 in cc) in
      ap (λ es. config_named es n) (sym same) ∙ named-put-other es n m done.0 other

  delete-other : (es new : List Entry) (m : List ℕ) (t : Tree) (path : List (List ℕ)) → same_text n m ≡ false
      → configs_after_delete es m t path ≡ Ok new
      → config_named new n ≡ config_named es n
  delete-other es new m t [] other e =
      let same : cut_config es m ≡ new = (let ok : Ok (cut_config es m) ≡ Ok new = e in cc) in
      ap (λ es. config_named es n) (sym same) ∙ named-cut-other es n m other
  delete-other es new m t (token ∷ tokens) other e =
      let done = and_then-Ok (by_path (delete t (token ∷ tokens))) (with_checked_config es m) new e in
      checked-other es new m done.0 other done.2

  configs-other : (es new : List Entry) (edit : Edit) → same_text n (name_of edit) ≡ false → configs_after es edit ≡ Ok new
      → config_named new n ≡ config_named es n
  configs-other es new (import_as m t) other e = checked-other es new m t other e
  configs-other es new (set_at m path value) other e =
      let there = and_then-Ok (found (config_named es m))
      (λ t. and_then (by_path (path_of path)) (λ tokens.
      and_then (by_path (set t tokens value)) (with_checked_config es m))) new e in
      let tokens = and_then-Ok (by_path (path_of path))
      (λ tokens. and_then (by_path (set there.0 tokens value)) (with_checked_config es m)) new there.2 in
      let done = and_then-Ok (by_path (set there.0 tokens.0 value)) (with_checked_config es m) new tokens.2 in
      checked-other es new m done.0 other done.2
  configs-other es new (delete_at m path) other e =
      let there = and_then-Ok (found (config_named es m)) (λ t. and_then (by_path (path_of path)) (configs_after_delete es m t)) new e in
      let tokens = and_then-Ok (by_path (path_of path)) (configs_after_delete es m there.0) new there.2 in
      delete-other es new m there.0 tokens.0 other tokens.2

  edited-other : (es new : List Entry) (edit : Edit) → same_text n (name_of edit) ≡ false → edited es edit ≡ Ok new
      → config_named new n ≡ config_named es n
  edited-other es new edit other e = by (good_name (name_of edit)) e
    where
      by : (good : Bool) → (if good then configs_after es edit else Err BadName) ≡ Ok new → config_named new n ≡ config_named es n
      by true is = configs-other es new edit other is
      by false is = (let refused : Err BadName ≡ Ok new = is in cc)

  all-other : (es new : List Entry) (edits : List Edit) → IsNoneOf n (map name_of edits) → all_edited es edits ≡ Ok new
      → config_named new n ≡ config_named es n
  all-other es new [] other e = (let ok : Ok es ≡ Ok new = e in let same : new ≡ es = cc in ap (λ es. config_named es n) same)
  all-other es new (edit ∷ edits) other e =
      let done = and_then-Ok (edited es edit) (λ next. all_edited next edits) new e in
      all-other done.0 new edits other.1 done.2 ∙ edited-other es done.0 edit other.0 done.1

  performed-other : (es new : List Entry) (command : Command) → IsNoneOf n (touched command) → performed es command ≡ Ok new
      → config_named new n ≡ config_named es n
  performed-other es new (single edit) other e = edited-other es new edit other.0 e
  performed-other es new (batch []) other e = (let refused : Err EmptyBatch ≡ Ok new = e in cc)
  performed-other es new (batch (edit ∷ edits)) other e = all-other es new (edit ∷ edits) other e
  performed-other es new (noted command about) other e = performed-other es new command other e

next_state-configs : (s new : Contents) (room : Room) (configs : List Entry) → next_state s room configs ≡ Ok new → new.configs ≡ configs
next_state-configs s new room configs e =
    by (nat_lt base_limit (base_length (record { configs = configs; count = s.count + 1 }))) room (nat_le count_limit s.count) e
  where
    by : (full : Bool) (room : Room) (last : Bool)
        → (if full then Err StoreFull else with_room room
        (if last then Err CountFull else Ok (record { configs = configs; count = s.count + 1 }))) ≡ Ok new
        → new.configs ≡ configs
    by true room last is = cc
    by false LongRecord last is = cc
    by false Missing last is = cc
    by false Enough true is = cc
    by false Enough false is = let same : record { configs = configs; count = s.count + 1 } ≡ new = cc in sym (ap (λ t. t.configs) same)

-- an accepted command leaves each configuration that it does not touch as it was
pub step-other : (n : List ℕ) (s new : Contents) (command : Command) (room : Room) → IsNoneOf n (touched command)
    → step s command room ≡ Ok new
    → config_named new.configs n ≡ config_named s.configs n
step-other n s new command room other e =
    let done = and_then-Ok (performed s.configs command) (next_state s room) new e in
    ap (λ es. config_named es n) (next_state-configs s new room done.0 done.2) ∙ performed-other n s.configs done.0 command other done.1
