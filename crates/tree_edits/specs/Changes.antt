-- What edits are made of, with texts as code points and trees as the grammar's; and which values they can't have.
use Rattle.std.specs.Prelude.{◌≡◌, ℕ, ◌<◌, ◌≤◌, List, Option, Some, None, Result, Ok, Err, String, string_bytes}
use Rattle.std.specs.declared.alloc.Global.{Global}
use Rattle.tree_edits.specs.Prelude.{PathFault, path_of, pointer_text, chars, set, own_limits, tree_of, style_text, byte_len, Tree, depth}
use Rattle.tree_edits.specs.declared.fault.EditFault.{EditFault, TheVariants.{TooDeep, TooLarge, OutOfMemory}}
use Rattle.tree_edits.specs.declared.changes.PlainSet as code

-- a value that is set at a pointer
pub record SetAt : Type 0 where
  pub pointer : List ℕ
  pub value : Tree

-- the characters of a string of the code
abbrev pub text_of : String Global → List ℕ
text_of string = chars (string_bytes string)

-- a set of the code
abbrev pub set_of : code.PlainSet → SetAt
set_of plain = record { pointer = text_of plain.path; value = tree_of plain.value }

-- what comes of a path; or, if a text is no pointer, something else
abbrev pub by_path : {A : Type 0} → Result (List (List ℕ)) PathFault → (List (List ℕ) → A) → A → A
by_path (Ok path) next other = next path
by_path (Err fault) next other = other

-- a text is as the steps that it is read as are written, if it is read as some
abbrev pub IsSpelled : List ℕ → Type 0
IsSpelled pointer = (steps : List (List ℕ)) → path_of pointer ≡ Ok steps → pointer ≡ pointer_text steps

-- a value that is there, without the reason why not
abbrev pub found : {E : Type 0} → Result Tree E → Option Tree
found (Ok t) = Some t
found (Err fault) = None

-- the tree after a set; none if it is refused
abbrev pub after_set : Tree → SetAt → Option Tree
after_set t s = by_path (path_of s.pointer) (λ path. found (set t path s.value)) None

-- no value of a configuration: it is too deep; or not, but it is too large. Memory may run out with any value.
abbrev pub IsRefused : Tree → EditFault → Type 0
IsRefused v TooDeep = own_limits.depth < depth v
IsRefused v TooLarge = (depth v ≤ own_limits.depth) × (own_limits.style < byte_len (style_text v))
IsRefused v OutOfMemory = Unit {0}
