-- What edits are, and what they make of a tree when they are performed in order.
use Rattle.std.specs.Prelude.{ℕ, List, [], ◌∷◌, map, Option, Some, None, Result, Ok, Err, string_bytes}
use Rattle.{json_pointer.specs.declared.fault.PathFault.PathFault, tree_diff.specs.Prelude.{Tree, tree_of, chars, path_of, set, delete}}
use Rattle.tree_diff.specs.{Prelude.and_then, declared.edit.Edit.Edit}
use Rattle.tree_diff.specs.declared.edit.Edit.TheVariants as edits

-- an edit: the pointer to its place, and the value that is set there; none where what is there is deleted
pub record Change : Type 0 where
  pub pointer : List ℕ
  pub value : Option Tree

-- an edit of the code
abbrev pub change_of : Edit → Change
change_of (edits.Set path value) = record { pointer = chars (string_bytes path); value = Some (tree_of value.now) }
change_of (edits.Delete path) = record { pointer = chars (string_bytes path); value = None }

-- edits of the code, in order
abbrev pub changes_of : List Edit → List Change
changes_of es = map change_of es

-- the tree with a value at a path, or without what is there
abbrev pub edited : Tree → List (List ℕ) → Option Tree → Result Tree PathFault
edited t path (Some v) = set t path v
edited t path None = delete t path

-- what is done at a path, or the fault of its pointer
abbrev pub along : Result (List (List ℕ)) PathFault → (List (List ℕ) → Result Tree PathFault) → Result Tree PathFault
along (Ok path) next = next path
along (Err fault) next = Err fault

-- the tree after one edit
abbrev pub changed : Change → Tree → Result Tree PathFault
changed c t = along (path_of c.pointer) (λ path. edited t path c.value)

-- the tree after edits in order, or the fault of the first one that is refused
abbrev pub performed : List Change → Tree → Result Tree PathFault
performed [] t = Ok t
performed (c ∷ cs) t = and_then (changed c t) (λ u. performed cs u)
