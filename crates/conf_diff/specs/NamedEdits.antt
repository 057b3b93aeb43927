-- The same edits between two states, by the names that are still to come.
use Rattle.std.specs.Prelude.{ℕ, Bool, false, if◌then◌else◌, List, [], ◌∷◌, ◌++◌, Option, Some, None}
use Rattle.conf_diff.specs.{Prelude.{Edit, Entry, Tree, chars, config_named, same_text}, StateEdits.config_edits, declared.left.Left.Left}

-- the names that are left
abbrev pub names_left : Left → List (List ℕ)
names_left left = elim left.next [ Some name ↦ chars name.now ∷ left.names | None ↦ [] ]

-- the first of the names is this one
abbrev pub is_next : List ℕ → List (List ℕ) → Bool
is_next name [] = false
is_next name (next ∷ names) = same_text name next

-- the names after this one, if it is the first of them; else all
abbrev pub after_next : List ℕ → List (List ℕ) → List (List ℕ)
after_next name [] = []
after_next name (next ∷ names) = if same_text name next then names else next ∷ names

-- the tree under a name, if it is the first of the names that are left
abbrev pub next_tree : List Entry → List ℕ → List (List ℕ) → Option Tree
next_tree fs name names = if is_next name names then config_named fs name else None

-- the configurations under the names that are left are new
abbrev pub new_named : List Entry → List (List ℕ) → List Edit
new_named fs [] = []
new_named fs (n ∷ ns) = config_edits n None (config_named fs n) ++ new_named fs ns

-- the edits of the names of the first configurations, and then of the second ones, that are left
abbrev pub named_edits : List Entry → List Entry → List (List ℕ) → List (List ℕ) → List Edit
named_edits es fs [] ns = new_named fs ns
named_edits es fs (m ∷ ms) ns =
    config_edits m (config_named es m) (next_tree fs m ns) ++ named_edits es fs ms (after_next m ns)
