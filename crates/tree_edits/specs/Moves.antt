-- A value taken to another pointer (RFC 6902, 4.4).
use Rattle.std.specs.Prelude.{ℕ, List, Option, Some, None, if◌then◌else◌}
use Rattle.tree_edits.specs.{Prelude.{path_of, at, tree_of, same_text, Tree}, Changes.{text_of, by_path, found}}
use Rattle.tree_edits.specs.declared.changes.Move.TheVariants.{Stays, Goes, Missing}
use Rattle.tree_edits.specs.declared.changes.Move as code

-- a set of the value where it is; a delete at `from`, and then a set at `to`; a delete alone, as there is no value
pub data Move : Type 0 where
  stays : (pointer : List ℕ) (value : Tree) → Move
  goes : (from to : List ℕ) (value : Tree) → Move
  missing : (from : List ℕ) → Move

-- a move of the code
abbrev pub move_of : code.Move → Move
move_of (Stays path value) = stays (text_of path) (tree_of value)
move_of (Goes from to value) = goes (text_of from) (text_of to) (tree_of value)
move_of (Missing from) = missing (text_of from)

-- the value at a pointer, if there is one
abbrev pub value_at : Tree → List ℕ → Option Tree
value_at t pointer = by_path (path_of pointer) (λ path. found (at t path)) None

-- the move of a value
abbrev pub move_with : List ℕ → List ℕ → Option Tree → Move
move_with from to None = missing from
move_with from to (Some v) = if same_text from to then stays from v else goes from to v

-- the move of what is at a pointer
abbrev pub moved : Tree → List ℕ → List ℕ → Move
moved t from to = move_with from to (value_at t from)
