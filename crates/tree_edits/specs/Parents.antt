-- A value set at a pointer together with the mappings that the pointer needs.
use Rattle.std.specs.Prelude.{ℕ, ◌-◌, Bool, false, not, if◌then◌else◌, List, [], ◌∷◌, length, take, Option, Some, None}
use Rattle.tree_edits.specs.Prelude.{path_of, pointer_text, child, Tree, text, sequence, mapping, member, no_member, has_key}
use Rattle.tree_edits.specs.Changes.{SetAt, by_path, found}

-- a mapping that lacks the key
abbrev pub lacks : Tree → List ℕ → Bool
lacks (text value) key = false
lacks (sequence ts) key = false
lacks (mapping ms) key = not (has_key key ms)

-- what is behind a step: of the value that it leads to, if there is one
abbrev pub behind : Option Tree → (Tree → List (List ℕ)) → List (List ℕ)
behind None next = []
behind (Some u) next = next u

-- the steps behind the first one whose key a mapping lacks; none if no mapping on the way lacks one
abbrev pub steps_behind : Tree → List (List ℕ) → List (List ℕ)
steps_behind t [] = []
steps_behind t (step ∷ steps) =
    if lacks t step then steps else behind (found (child t step)) (λ u. steps_behind u steps)

-- the same of a pointer; none if the text is no pointer
abbrev pub keys_behind : Tree → List ℕ → List (List ℕ)
keys_behind t pointer = by_path (path_of pointer) (λ path. steps_behind t path) []

-- a value under keys, each the only one of a mapping
abbrev pub under_keys : List (List ℕ) → Tree → Tree
under_keys [] v = v
under_keys (key ∷ keys) v = mapping (member key (under_keys keys v) no_member)

-- the first steps of a path, without so many at its end
abbrev pub without_last : ℕ → List (List ℕ) → List (List ℕ)
without_last count path = take (length path - count) path

-- the value under the steps behind the first key that is missing, set where that key is missing
abbrev pub set_below : List (List ℕ) → List (List ℕ) → Tree → SetAt
set_below path keys v =
    record { pointer = pointer_text (without_last (length keys) path); value = under_keys keys v }

-- the value set with the mappings that are missing; as it is, if none is missing
abbrev pub with_parents : Tree → List ℕ → Tree → SetAt
with_parents t pointer v =
    by_path (path_of pointer) (λ path. set_below path (steps_behind t path) v) (record { pointer = pointer; value = v })
