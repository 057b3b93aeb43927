-- What edits make that put in or take out a whole configuration, or are refused before any change; and batches.
use Rattle.std.proofs.Common.{◌≡◌, ℕ, ◌<◌, ◌≤◌, ◌==◌, Bool, true, false, List, [], ◌∷◌, ◌++◌, length, Option, Some, if◌then◌else◌, None}
use Rattle.std.proofs.Common.{option_map, option_to_list, is_some, Result, Ok, Err, length-append, refl, ap, ◌∙◌, arith}
use Rattle.conf_state.proofs.{Prelude.{nat_tests, style_text, byte_len, Tree, depth, config_limits}, CountLemmas.{lt-true, lt-false}}
use Rattle.conf_state.{proofs.PlaceLemmas.is_none, specs.{Edits.absence, Names.good_name, declared.fault.StoreFault.StoreFault}}
use Rattle.conf_state.specs.declared.{fault.StoreFault.TheVariants.{BadName, NoConfig, TooDeep, ConfigLarge}, room.Room.Room}
use Rattle.conf_state.specs.{Commands.{Edit, import_as, set_at, delete_at, single, batch, name_of}, States.{Entry, Contents, config_named}}
use Rattle.conf_state.specs.{States.{put_config, cut_config}, Steps.{and_then, found, checked_tree, with_checked_config, configs_after}}
use Rattle.conf_state.specs.Steps.{edited, all_edited, next_state, step}

-- ---- the limits of a configuration, in their order

pub checked_tree-deep : (t : Tree) → config_limits.depth < depth t → checked_tree t ≡ Err TooDeep
checked_tree-deep t deep = rw (lt-true config_limits.depth (depth t) deep) refl

pub checked_tree-large : (t : Tree) → depth t ≤ config_limits.depth → config_limits.style < byte_len (style_text t)
    → checked_tree t ≡ Err ConfigLarge
checked_tree-large t deep long =
    rw (lt-false config_limits.depth (depth t) deep, lt-true config_limits.style (byte_len (style_text t)) long) refl

pub checked_tree-within : (t : Tree) → depth t ≤ config_limits.depth → byte_len (style_text t) ≤ config_limits.style → checked_tree t ≡ Ok t
checked_tree-within t deep long =
    rw (lt-false config_limits.depth (depth t) deep, lt-false config_limits.style (byte_len (style_text t)) long) refl

-- ---- what the code's tests say

pub some_bytes : (length : ℕ) (empty : Bool) → empty ≡ (length == 0) → empty ≡ false → 0 < length
some_bytes length empty is e = grind (arith, nat_tests)

pub no_bytes : (length : ℕ) (empty : Bool) → empty ≡ (length == 0) → empty ≡ true → length ≡ 0
no_bytes length empty is e = grind (arith, nat_tests)

-- an option that is mapped is there as before
pub is_some-mapped : {A B : Type 0} (f : A → B) (o : Option A) → is_some (option_map f o) ≡ is_some o
is_some-mapped f None = refl
is_some-mapped f (Some x) = refl

-- ---- edits

-- an edit needs a good name
pub edited-named : (es : List Entry) (edit : Edit) → good_name (name_of edit) ≡ true → edited es edit ≡ configs_after es edit
edited-named es edit named = rw named refl

pub edited-unnamed : (es : List Entry) (edit : Edit) → good_name (name_of edit) ≡ false → edited es edit ≡ Err BadName
edited-unnamed es edit bad = rw bad refl

module _ (es : List Entry) (name : List ℕ) where
  -- an import of a tree that keeps to the limits puts it in
  pub import-checked : (t : Tree) → checked_tree t ≡ Ok t → configs_after es (import_as name t) ≡ Ok (put_config es name t)
  import-checked t is = ap (λ r. and_then r (λ u. Ok (put_config es name u))) is

  -- an import of another is refused
  pub import-refused : (t : Tree) (fault : StoreFault) → checked_tree t ≡ Err fault → configs_after es (import_as name t) ≡ Err fault
  import-refused t fault is = ap (λ r. and_then r (λ u. Ok (put_config es name u))) is

  -- what is refused by `NoConfig` where the name is good is refused where there is no configuration
  pub by_absence : (after : Result (List Entry) StoreFault) → after ≡ Err NoConfig
      → (if good_name name then after else Err BadName) ≡ Err (absence name)
  by_absence after none = by (good_name name)
    where
      by : (named : Bool) → (if named then after else Err BadName) ≡ Err (if named then NoConfig else BadName)
      by true = none
      by false = refl

  -- a set and a delete need a configuration of the name
  pub set-nothing : (path : List ℕ) (t : Tree) → is_some (config_named es name) ≡ false
      → edited es (set_at name path t) ≡ Err (absence name)
  set-nothing path t none = by_absence (configs_after es (set_at name path t)) (rw (is_none (config_named es name) none) refl)

  pub delete-nothing : (path : List ℕ) → is_some (config_named es name) ≡ false
      → edited es (delete_at name path) ≡ Err (absence name)
  delete-nothing path none = by_absence (configs_after es (delete_at name path)) (rw (is_none (config_named es name) none) refl)

  -- at the empty path, where there is one
  module _ (path : List ℕ) (empty : path ≡ []) (there : is_some (config_named es name) ≡ true) where
    -- a set is an import
    pub set-whole : (t : Tree) → configs_after es (set_at name path t) ≡ configs_after es (import_as name t)
    set-whole t = rw empty (by (config_named es name) there)
      where
        by : (o : Option Tree) → is_some o ≡ true → and_then (found o) (λ u. with_checked_config es name t) ≡ with_checked_config es name t
        by (Some u) e = refl
        by None e = cc

    -- a delete takes the configuration out
    pub delete-whole : configs_after es (delete_at name path) ≡ Ok (cut_config es name)
    delete-whole = rw empty (by (config_named es name) there)
      where
        by : (o : Option Tree) → is_some o ≡ true → and_then (found o) (λ u. Ok (cut_config es name)) ≡ Ok (cut_config es name)
        by (Some u) e = refl
        by None e = cc

-- ---- batches

-- a batch with an edit makes all of its edits
pub batch-all : (s : Contents) (edits : List Edit) (room : Room) → 0 < length edits
    → step s (batch edits) room ≡ and_then (all_edited s.configs edits) (next_state s room)
batch-all s [] room some = absurd (omega arith)
batch-all s (edit ∷ edits) room some = refl

-- a batch of one edit is that edit
pub batch-one : (s : Contents) (edit : Edit) (room : Room) → step s (batch (edit ∷ [])) room ≡ step s (single edit) room
batch-one s edit room = by (edited s.configs edit)
  where
    by : (r : Result (List Entry) StoreFault) → and_then (and_then r (λ next. Ok next)) (next_state s room) ≡ and_then r (next_state s room)
    by (Ok next) = refl
    by (Err fault) = refl

-- the one element of a list is its last
pub one_item : {A : Type 0} (items rest : List A) (popped : Option A) (last : A) → length items ≡ 1 → items ≡ rest ++ option_to_list popped
    → popped ≡ Some last → items ≡ last ∷ []
one_item items [] popped last one is some = is ∙ ap option_to_list some
one_item items (x ∷ rest) popped last one is some =
    absurd (omega (arith, one, ap length (is ∙ ap (λ o. x ∷ rest ++ option_to_list o) some), length-append (x ∷ rest) (last ∷ [])))
