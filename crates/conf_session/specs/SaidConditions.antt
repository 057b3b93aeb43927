-- The conditions of a command, as its document has them under `if`.
use Rattle.std.specs.Prelude.{ℕ, List, [], ◌∷◌, codes, Option, Some, None, option_map, if◌then◌else◌}
use Rattle.conf_session.specs.Prelude.{chars, Tree, text, sequence, mapping, Elements, no_element, element, Members, IsKept, tree_of}
use Rattle.conf_session.specs.Prelude.{text_bytes, keys_are, values, number_from_digits, Condition, test_at, absent_at, count_is}
use Rattle.conf_session.specs.declared.conditions.Members as code
use Rattle.conf_session.specs.declared.conditions.Members.TheVariants as read

abbrev pub test_keys : List (List ℕ)
test_keys = codes "test" ∷ codes "path" ∷ codes "value" ∷ []

abbrev pub absent_keys : List (List ℕ)
absent_keys = codes "absent" ∷ codes "path" ∷ []

-- without a path: no configuration has the name
abbrev pub missing_keys : List (List ℕ)
missing_keys = codes "absent" ∷ []

abbrev pub count_keys : List (List ℕ)
count_keys = codes "count" ∷ []

abbrev pub test_in : List Tree → Option Condition
test_in (text name ∷ text path ∷ value ∷ []) = Some (test_at name path value)
test_in ts = None

abbrev pub absent_in : List Tree → Option Condition
absent_in (text name ∷ text path ∷ []) = Some (absent_at name path)
absent_in ts = None

abbrev pub missing_in : List Tree → Option Condition
missing_in (text name ∷ []) = Some (absent_at name [])
missing_in ts = None

abbrev pub count_in : List Tree → Option Condition
count_in (text digits ∷ []) = option_map count_is (number_from_digits digits)
count_in ts = None

-- the condition that a mapping is, if it has exactly the keys of one, in their order
unfoldable pub condition_from : Members → Option Condition
condition_from ms =
    if keys_are test_keys ms then test_in (values ms)
    else if keys_are absent_keys ms then absent_in (values ms)
    else if keys_are missing_keys ms then missing_in (values ms)
    else if keys_are count_keys ms then count_in (values ms)
    else None

abbrev pub condition_in : Tree → Option Condition
condition_in (text value) = None
condition_in (sequence ts) = None
condition_in (mapping ms) = condition_from ms

abbrev pub first_and_rest : {A : Type 0} → Option A → Option (List A) → Option (List A)
first_and_rest (Some x) (Some xs) = Some (x ∷ xs)
first_and_rest (Some x) None = None
first_and_rest None xs = None

-- what the elements of a sequence are read as, if each of them can be read
abbrev pub all_in : {A : Type 0} → (Tree → Option A) → Elements → Option (List A)
all_in read no_element = Some []
all_in read (element t ts) = first_and_rest (read t) (all_in read ts)

-- the conditions that the elements of a sequence are, if each of them is one
abbrev pub all_conditions_in : Elements → Option (List Condition)
all_conditions_in ts = all_in condition_in ts

-- the conditions under `if`: a sequence of at least one
abbrev pub conditions_in : Tree → Option (List Condition)
conditions_in (text value) = None
conditions_in (sequence no_element) = None
conditions_in (sequence (element t ts)) = all_conditions_in (element t ts)
conditions_in (mapping ms) = None

-- ---- what values of the code's types say

abbrev pub members_seen : code.Members → Condition
members_seen (read.Test name path value) = test_at (chars (text_bytes name)) (chars (text_bytes path)) (tree_of value)
members_seen (read.Absent name path) = absent_at (chars (text_bytes name)) (chars (text_bytes path))
members_seen (read.Count count) = count_is count

-- the value of a test is a tree that a `Config` keeps
abbrev pub KeepsValue : Condition → Type 0
KeepsValue (test_at name path value) = IsKept value
KeepsValue condition = Unit {0}
