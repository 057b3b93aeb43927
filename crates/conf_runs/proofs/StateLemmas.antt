-- What a command leaves at a place of a state.
use Rattle.std.proofs.Common.{◌≡◌, ◌≢◌, ℕ, ◌+◌, nat_le, nat_lt, Bool, true, false, if◌then◌else◌, List, [], ◌∷◌, ◌++◌, Option, None, Some}
use Rattle.std.proofs.Common.{Result, Ok, Err, refl, sym, ap, ◌∙◌, subst}
use Rattle.{conf_session.specs.Answers.value_at_path, conf_state.proofs.{DraftLemmas.named-put-same, RunLaws.and_then-Ok}}
use Rattle.conf_state.specs.{BaseTexts.base_length, Commands.{Edit, import_as, name_of, set_at, single}, Names.good_name, States.Contents}
use Rattle.conf_state.specs.{States.{Entry, base_limit, config_named, count_limit, put_config}, Steps.{and_then, by_path, checked_tree}}
use Rattle.conf_state.specs.Steps.{configs_after, edited, found, next_state, performed, step, with_checked_config, with_room}
use Rattle.conf_state.specs.declared.fault.StoreFault.{StoreFault, TheVariants.{BadName, ConfigLarge, CountFull, Path, StoreFull, TooDeep}}
use Rattle.{conf_state.specs.declared.room.Room.{Room, TheVariants.{Enough, LongRecord, Missing}}, conf_store.specs.Calls.tree_named}
use Rattle.{conf_store.specs.Meaning.empty_state, json_pointer.specs.{Pointers.path_of, declared.fault.PathFault.PathFault}}
use Rattle.{tree_path.{proofs.EditLaws.set-at, specs.Paths.{at, after_last, index_of, set}}, yaml_config.specs.Limits.config_limits}
use Rattle.yaml_grammar.specs.{Style.style_text, Texts.byte_len, Trees.{Tree, depth}}

-- ---- results that are what they are said to be

pub both-Ok : {A : Type 0} (r : Result A StoreFault) (x y : A) → r ≡ Ok x → r ≡ Ok y → x ≡ y
both-Ok r x y first second = let same : Ok x ≡ Ok y = sym first ∙ second in cc

found-Ok : (o : Option Tree) (t : Tree) → found o ≡ Ok t → o ≡ Some t
found-Ok None t is = cc
found-Ok (Some u) t is = cc

by_path-Ok : {A : Type 0} (r : Result A PathFault) (x : A) → by_path r ≡ Ok x → r ≡ Ok x
by_path-Ok (Ok y) x is = cc
by_path-Ok (Err fault) x is = let refused : Err (Path fault) ≡ Ok x = is in cc

checked-Ok : (t u : Tree) → checked_tree t ≡ Ok u → u ≡ t
checked-Ok t u is = by (nat_lt config_limits.depth (depth t)) (nat_lt config_limits.style (byte_len (style_text t))) is
  where
    by : (deep long : Bool) → (if deep then Err TooDeep else if long then Err ConfigLarge else Ok t) ≡ Ok u → u ≡ t
    by true long same = cc
    by false true same = cc
    by false false same = cc

-- ---- a state after an edit

pub next-configs : (s new : Contents) (room : Room) (configs : List Entry) → next_state s room configs ≡ Ok new → new.configs ≡ configs
next-configs s new room configs e =
    by (nat_lt base_limit (base_length (record { configs = configs; count = s.count + 1 }))) room (nat_le count_limit s.count) e
  where
    by : (full : Bool) (room : Room) (last : Bool)
        → (if full then Err StoreFull else with_room room
        (if last then Err CountFull else Ok (record { configs = configs; count = s.count + 1 }))) ≡ Ok new
        → new.configs ≡ configs
    by true room last is = cc
    by false LongRecord last is = cc
    by false Missing last is = cc
    by false Enough true is = cc
    by false Enough false is =
        let same : new ≡ record { configs = configs; count = s.count + 1 } = cc in ap (λ (t : Contents). t.configs) same

-- an edit was made: its name is good, and these are the configurations
record IsEdited (from to : Contents) (edit : Edit) : Type 0 where
  pub named : good_name (name_of edit) ≡ true
  pub makes : configs_after from.configs edit ≡ Ok to.configs

edited-by : (from to : Contents) (edit : Edit) (room : Room) → step from (single edit) room ≡ Ok to → IsEdited from to edit
edited-by from to edit room is =
    let done = and_then-Ok (performed from.configs (single edit)) (next_state from room) to is in
    let same = next-configs from to room done.0 done.2 in
    by (good_name (name_of edit)) refl (subst (λ (c : List Entry). edited from.configs edit ≡ Ok c) (sym same) done.1)
  where
    by : (good : Bool) → good_name (name_of edit) ≡ good
        → (if good then configs_after from.configs edit else Err BadName) ≡ Ok to.configs → IsEdited from to edit
    by true good made = record { named = good; makes = made }
    by false good made = let refused : Err BadName ≡ Ok to.configs = made in cc

put-checked : (configs after : List Entry) (name : List ℕ) (t : Tree) → with_checked_config configs name t ≡ Ok after
    → config_named after name ≡ Some t
put-checked configs after name t is =
    let done = and_then-Ok (checked_tree t) (λ u. Ok (put_config configs name u)) after is in
    let same = checked-Ok t done.0 done.1 in
    let made : put_config configs name done.0 ≡ after =
    both-Ok (Ok (put_config configs name done.0)) (put_config configs name done.0) after refl done.2 in
    subst (λ (c : List Entry). config_named c name ≡ Some t) made
    (named-put-same configs name done.0 ∙ ap Some same)

-- ---- what is at a place

-- a value is at a place, in this tree, by these steps
pub record IsAt (s : Contents) (name pointer : List ℕ) (value : Tree) : Type 0 where
  pub tree : Tree
  pub steps : List (List ℕ)
  pub good : good_name name ≡ true
  pub named : config_named s.configs name ≡ Some tree
  pub leads : path_of pointer ≡ Ok steps
  pub there : at tree steps ≡ Ok value

pub put-at : (s : Contents) (name pointer : List ℕ) (value : Tree) → IsAt s name pointer value → value_at_path s name pointer ≡ Ok value
put-at s name pointer value is = rw (is.good, is.named, is.leads, is.there) refl

pub seen-at : (s : Contents) (name pointer : List ℕ) (value : Tree) → value_at_path s name pointer ≡ Ok value → IsAt s name pointer value
seen-at s name pointer value is =
    let first = and_then-Ok (tree_named s name) (λ t. and_then (by_path (path_of pointer)) (λ tokens. by_path (at t tokens))) value is in
    let second = and_then-Ok (by_path (path_of pointer)) (λ tokens. by_path (at first.0 tokens)) value first.2 in
    let named = by first.0 (good_name name) refl first.1 in
    record {
      tree = first.0;
      steps = second.0;
      good = named.0;
      named = found-Ok (config_named s.configs name) first.0 named.1;
      leads = by_path-Ok (path_of pointer) second.0 second.1;
      there = by_path-Ok (at first.0 second.0) value second.2;
    }
  where
    by : (t : Tree) (good : Bool) → good_name name ≡ good
        → (if good then found (config_named s.configs name) else Err BadName) ≡ Ok t
        → (good_name name ≡ true) × (found (config_named s.configs name) ≡ Ok t)
    by t true good is = (good, is)
    by t false good is = let refused : Err BadName ≡ Ok t = is in cc

-- nothing is in the empty state
pub empty-lacks : (name pointer : List ℕ) (value : Tree) → value_at_path empty_state name pointer ≡ Ok value → ⊥
empty-lacks name pointer value is = let there = (seen-at empty_state name pointer value is).named in cc

-- ---- what a set puts there

snoc : {A : Type 0} (x : A) (xs : List A) → (parents : List A) × (last : A) × (x ∷ xs ≡ parents ++ last ∷ [])
snoc x [] = ([], x, refl)
snoc {A} x (y ∷ ys) = let rest = snoc y ys in (x ∷ rest.0, rest.1, ap (λ (l : List A). x ∷ l) rest.2)

-- the last step is not behind the last element
abbrev Steady : Result (List (List ℕ)) PathFault → Type 0
Steady path = (parents : List (List ℕ)) (last : List ℕ) → path ≡ Ok (parents ++ last ∷ []) → index_of last ≢ after_last

set-found : (t u v : Tree) (steps : List (List ℕ)) → Steady (Ok steps) → set t steps v ≡ Ok u → at u steps ≡ Ok v
set-found t u v [] steady is = sym is
set-found t u v (step ∷ steps) steady is =
    let parts = snoc step steps in
    subst (λ (p : List (List ℕ)). at u p ≡ Ok v) (sym parts.2)
    (set-at t u v parts.0 parts.1 (steady parts.0 parts.1 (ap Ok parts.2))
    (subst (λ (p : List (List ℕ)). set t p v ≡ Ok u) parts.2 is))

-- A set was made: of the tree `old` under the name it made `new`.
pub record IsSetIn (from to : Contents) (name pointer : List ℕ) (value : Tree) : Type 0 where
  pub old : Tree
  pub stood : config_named from.configs name ≡ Some old
  pub steps : List (List ℕ)
  pub leads : path_of pointer ≡ Ok steps
  pub new : Tree
  pub made : set old steps value ≡ Ok new
  pub good : good_name name ≡ true
  pub stands : config_named to.configs name ≡ Some new

pub set-in : (from to : Contents) (name pointer : List ℕ) (value : Tree) (room : Room)
    → step from (single (set_at name pointer value)) room ≡ Ok to → IsSetIn from to name pointer value
set-in from to name pointer value room is =
    let done = edited-by from to (set_at name pointer value) room is in
    let first = and_then-Ok (found (config_named from.configs name))
    (λ t. and_then (by_path (path_of pointer)) (λ tokens. and_then (by_path (set t tokens value)) (with_checked_config from.configs name)))
    to.configs done.makes in
    let second = and_then-Ok (by_path (path_of pointer))
    (λ tokens. and_then (by_path (set first.0 tokens value)) (with_checked_config from.configs name)) to.configs first.2 in
    let third = and_then-Ok (by_path (set first.0 second.0 value)) (with_checked_config from.configs name) to.configs second.2 in
    record {
      old = first.0;
      stood = found-Ok (config_named from.configs name) first.0 first.1;
      steps = second.0;
      leads = by_path-Ok (path_of pointer) second.0 second.1;
      new = third.0;
      made = by_path-Ok (set first.0 second.0 value) third.0 third.1;
      good = done.named;
      stands = put-checked from.configs to.configs name third.0 third.2;
    }

pub set-there : (from to : Contents) (name pointer : List ℕ) (value : Tree) (room : Room) → Steady (path_of pointer)
    → step from (single (set_at name pointer value)) room ≡ Ok to → value_at_path to name pointer ≡ Ok value
set-there from to name pointer value room steady is =
    let made = set-in from to name pointer value room is in
    put-at to name pointer value (record {
      tree = made.new;
      steps = made.steps;
      good = made.good;
      named = made.stands;
      leads = made.leads;
      there = set-found made.old made.new value made.steps
          (subst (λ (p : Result (List (List ℕ)) PathFault). Steady p) made.leads steady) made.made;
    })

-- ---- what an import puts there

pub import-there : (from to : Contents) (name : List ℕ) (tree : Tree) (room : Room)
    → step from (single (import_as name tree)) room ≡ Ok to → value_at_path to name [] ≡ Ok tree
import-there from to name tree room is =
    let done = edited-by from to (import_as name tree) room is in
    put-at to name [] tree (record {
      tree = tree;
      steps = [];
      good = done.named;
      named = put-checked from.configs to.configs name tree done.makes;
      leads = refl;
      there = refl;
    })

-- a set in a configuration that was this tree makes that tree of it
pub set-turns : (from to : Contents) (name pointer : List ℕ) (value : Tree) (steps : List (List ℕ)) (t u : Tree)
    → path_of pointer ≡ Ok steps → set t steps value ≡ Ok u → value_at_path from name [] ≡ Ok t
    → step from (single (set_at name pointer value)) Enough ≡ Ok to → value_at_path to name [] ≡ Ok u
set-turns from to name pointer value steps t u leads is_set stood is =
    let made = set-in from to name pointer value Enough is in
    let seen = seen-at from name [] t stood in
    let none : seen.steps ≡ [] = one-path seen.steps [] (sym seen.leads) in
    let whole : seen.tree ≡ t = one-tree seen.tree t (subst (λ (p : List (List ℕ)). at seen.tree p ≡ Ok t) none seen.there) in
    let old : made.old ≡ t = one-named made.old seen.tree (sym made.stood ∙ seen.named) ∙ whole in
    let path : made.steps ≡ steps = one-path made.steps steps (sym made.leads ∙ leads) in
    let new : made.new ≡ u = one-tree made.new u
    (sym (subst (λ (p : List (List ℕ)). set t p value ≡ Ok made.new) path
    (subst (λ (o : Tree). set o made.steps value ≡ Ok made.new) old made.made)) ∙ is_set) in
    put-at to name [] u (record {
      tree = made.new;
      steps = [];
      good = made.good;
      named = made.stands;
      leads = refl;
      there = ap Ok new;
    })
  where
    one-path : (x y : List (List ℕ)) → ◌≡◌ {A = Result (List (List ℕ)) PathFault} (Ok x) (Ok y) → x ≡ y
    one-path x y is = cc

    one-tree : (x y : Tree) → ◌≡◌ {A = Result Tree PathFault} (Ok x) (Ok y) → x ≡ y
    one-tree x y is = cc

    one-named : (x y : Tree) → Some x ≡ Some y → x ≡ y
    one-named x y is = cc
