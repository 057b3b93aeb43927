-- Conditions on a store's state: what each means, and the fault of the first that does not hold.
use Rattle.std.specs.Prelude.{◌≡◌, ◌≢◌, ℕ, Bool, true, false, ◌==◌, if◌then◌else◌, List, [], ◌∷◌, ◌++◌, map, Option, Some, None, is_none}
use Rattle.std.specs.{Prelude.{option_and_then, Result, Ok, Err}, Result.result_ok}
use Rattle.{yaml_grammar.specs.Trees.Tree, yaml_data.specs.Seen.tree_of, json_pointer.specs.Pointers.path_of}
use Rattle.{json_pointer.specs.declared.fault.PathFault.PathFault, tree_path.specs.Paths.at, conf_state.specs.Commands.text_of}
use Rattle.{conf_state.specs.{Names.good_name, States.{Contents, config_named}}, conf_conditions.specs.SameTrees.same_tree}
use Rattle.conf_conditions.specs.declared.fault.ConditionFault.{ConditionFault, TheVariants.{Unmet, BadName, Path, OutOfMemory}}
use Rattle.conf_conditions.specs.declared.condition.Condition as code
use Rattle.conf_conditions.specs.declared.condition.Condition.TheVariants as conditions

-- the value at a place is this tree; nothing is at a place; so many commands were accepted
pub data Condition : Type 0 where
  test_at : (name path : List ℕ) (value : Tree) → Condition
  absent_at : (name path : List ℕ) → Condition
  count_is : (count : ℕ) → Condition

-- a condition of the code
abbrev pub condition_of : code.Condition → Condition
condition_of (conditions.Test name path value) = test_at (text_of name) (text_of path) (tree_of value)
condition_of (conditions.Absent name path) = absent_at (text_of name) (text_of path)
condition_of (conditions.Count count) = count_is count

abbrev pub conditions_of : List code.Condition → List Condition
conditions_of cs = map condition_of cs

-- ---- what is at a place

-- the value at a path in a tree, if there is one
abbrev pub value_at : List (List ℕ) → Tree → Option Tree
value_at tokens t = result_ok (at t tokens)

-- the value at a path in the configuration under a name, if there is one
abbrev pub value_in : Contents → List ℕ → List (List ℕ) → Option Tree
value_in s name tokens = option_and_then (value_at tokens) (config_named s.configs name)

abbrev pub found_by : Result (List (List ℕ)) PathFault → (List (List ℕ) → Option Tree) → Result (Option Tree) ConditionFault
found_by (Ok tokens) find = Ok (find tokens)
found_by (Err fault) find = Err (Path fault)

-- what is at a place, a value or nothing, or why there is no such place
abbrev pub found_at : Contents → List ℕ → List ℕ → Result (Option Tree) ConditionFault
found_at s name path = if good_name name then found_by (path_of path) (value_in s name) else Err BadName

-- ---- the fault of conditions

-- none where this holds
abbrev pub unless_met : Bool → Option ConditionFault
unless_met true = None
unless_met false = Some Unmet

-- none where there is such a place, and this holds of what is found there
abbrev pub unless_found : Result (Option Tree) ConditionFault → (Option Tree → Bool) → Option ConditionFault
unless_found (Ok found) holds = unless_met (holds found)
unless_found (Err fault) holds = Some fault

-- what was found is this tree
abbrev pub is_value : Tree → Option Tree → Bool
is_value value (Some found) = same_tree found value
is_value value None = false

-- the fault of a condition, if it does not hold
abbrev pub fault_of : Contents → Condition → Option ConditionFault
fault_of s (test_at name path value) = unless_found (found_at s name path) (is_value value)
fault_of s (absent_at name path) = unless_found (found_at s name path) is_none
fault_of s (count_is count) = unless_met (s.count == count)

-- the first of two faults
abbrev pub first_of : Option ConditionFault → Option ConditionFault → Option ConditionFault
first_of (Some fault) later = Some fault
first_of None later = later

-- the fault of the first condition that does not hold, if there is one
abbrev pub first_fault : Contents → List Condition → Option ConditionFault
first_fault s [] = None
first_fault s (c ∷ cs) = first_of (fault_of s c) (first_fault s cs)

-- a call tells this fault, or that there is none; where memory ran out it tells nothing
abbrev pub Judges : Option ConditionFault → Result (Unit {0}) ConditionFault → Type 0
Judges fault (Ok done) = fault ≡ None
Judges fault (Err told) = told ≢ OutOfMemory → fault ≡ Some told

-- ---- the same in words: which conditions hold, and how one fails

-- the name may be used, and the path is a pointer to these tokens
pub record IsPlace (name path : List ℕ) (tokens : List (List ℕ)) : Type 0 where
  pub named : good_name name ≡ true
  pub means : path_of path ≡ Ok tokens

abbrev pub Holds : Contents → Condition → Type 0
Holds s (test_at name path value) =
    (tokens : List (List ℕ)) × IsPlace name path tokens × (value_in s name tokens ≡ Some value)
Holds s (absent_at name path) =
    (tokens : List (List ℕ)) × IsPlace name path tokens × (value_in s name tokens ≡ None)
Holds s (count_is count) = s.count ≡ count

abbrev pub AllHold : Contents → List Condition → Type 0
AllHold s [] = Unit {0}
AllHold s (c ∷ cs) = Holds s c × AllHold s cs

-- why there is no place of this name and path: for the name, and else for the path
abbrev pub IsNoPlace : List ℕ → List ℕ → ConditionFault → Type 0
IsNoPlace name path BadName = good_name name ≡ false
IsNoPlace name path (Path fault) = (good_name name ≡ true) × (path_of path ≡ Err fault)
IsNoPlace name path fault = ⊥

-- a condition fails: there is no such place, or there is one and the state is another
abbrev pub Fails : Contents → Condition → ConditionFault → Type 0
Fails s (test_at name path value) Unmet =
    (tokens : List (List ℕ)) × IsPlace name path tokens × (value_in s name tokens ≢ Some value)
Fails s (test_at name path value) fault = IsNoPlace name path fault
Fails s (absent_at name path) Unmet =
    (tokens : List (List ℕ)) × IsPlace name path tokens × (value_in s name tokens ≢ None)
Fails s (absent_at name path) fault = IsNoPlace name path fault
Fails s (count_is count) Unmet = s.count ≢ count
Fails s (count_is count) fault = ⊥

-- all before it hold, and then one fails
pub record FailsFirst (s : Contents) (cs : List Condition) (fault : ConditionFault) : Type 0 where
  pub before : List Condition
  pub condition : Condition
  pub further : List Condition
  pub is : cs ≡ before ++ condition ∷ further
  pub hold : AllHold s before
  pub fails : Fails s condition fault
