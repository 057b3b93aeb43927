-- States: what a store holds between two commands.
use Rattle.std.specs.Prelude.{ℕ, Bool, false, true, not, ◌&&◌, ◌||◌, if◌then◌else◌, List, [], ◌∷◌, Option, Some, None}
use Rattle.conf_state.specs.Prelude.{same_text, Tree}

-- a configuration: its name, and its tree
abbrev pub Entry : Type 0
Entry = List ℕ × Tree

-- the configurations in order, and how many commands were accepted; the count has no bound here
pub record Contents : Type 0 where
  pub configs : List Entry
  pub count : ℕ

abbrev pub names_of : List Entry → List (List ℕ)
names_of [] = []
names_of (e ∷ es) = e.0 ∷ names_of es

-- the tree under a name
abbrev pub config_named : List Entry → List ℕ → Option Tree
config_named [] name = None
config_named (e ∷ es) name = if same_text name e.0 then Some e.1 else config_named es name

-- with a tree under a name: a name that is there keeps its place, and a new one goes last
abbrev pub put_config : List Entry → List ℕ → Tree → List Entry
put_config [] name t = (name, t) ∷ []
put_config (e ∷ es) name t = if same_text name e.0 then (e.0, t) ∷ es else e ∷ put_config es name t

-- without the configuration under a name, if there is one
abbrev pub cut_config : List Entry → List ℕ → List Entry
cut_config [] name = []
cut_config (e ∷ es) name = if same_text name e.0 then es else e ∷ cut_config es name

-- ---- limits

-- the most bytes of a state's base text
abbrev pub base_limit : ℕ
base_limit = 67108864

-- the greatest count that a store can number
abbrev pub count_limit : ℕ
count_limit = 18446744073709551615

-- one of the names is this one
abbrev pub has_name : List ℕ → List (List ℕ) → Bool
has_name name [] = false
has_name name (n ∷ ns) = same_text name n || has_name name ns

-- no name occurs twice
abbrev pub names_differ : List (List ℕ) → Bool
names_differ [] = true
names_differ (n ∷ ns) = not (has_name n ns) && names_differ ns
