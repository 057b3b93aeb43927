-- The JSON text of a value in which what is at some paths, and below them, is hidden: a mark stands for it. A path is the
-- list of its tokens, from the value on.
use Rattle.std.specs.Prelude.{◌||◌, ◌+◌, ℕ, Bool, true, false, if◌then◌else◌, List, [], ◌∷◌, ◌++◌, codes, decimal, Option, Some, None}
use Rattle.std.specs.Prelude.{Result, Ok, Err}
use Rattle.tree_hidden.specs.Prelude.{PathFault, json_member, json_string, same_text, Tree, text, sequence, mapping, Elements, no_element}
use Rattle.tree_hidden.specs.Prelude.{element, Members, no_member, member}

-- ---- paths

-- the path leads to the whole value
abbrev pub is_whole : List (List ℕ) → Bool
is_whole [] = true
is_whole (token ∷ tokens) = false

-- one of the paths does
abbrev pub hides_whole : List (List (List ℕ)) → Bool
hides_whole [] = false
hides_whole (path ∷ paths) = is_whole path || hides_whole paths

-- A token may lead where another one does: they are the same, or it is `-`, which leads to a new element of a sequence
-- and does not say at which index.
abbrev pub may_lead : List ℕ → List ℕ → Bool
may_lead token other = same_text token other || same_text token (codes "-")

-- What is left of a path from the value on to which a token leads; none if the path leads elsewhere. What is in a value
-- that is hidden is hidden too.
abbrev pub path_below : List ℕ → List (List ℕ) → Option (List (List ℕ))
path_below token [] = Some []
path_below token (first ∷ rest) = if may_lead token first then Some rest else None

-- a path before others, if there is one
abbrev pub before_paths : Option (List (List ℕ)) → List (List (List ℕ)) → List (List (List ℕ))
before_paths None paths = paths
before_paths (Some path) paths = path ∷ paths

-- the paths from the value on to which a token leads
abbrev pub below : List ℕ → List (List (List ℕ)) → List (List (List ℕ))
below token [] = []
below token (path ∷ paths) = before_paths (path_below token path) (below token paths)

-- the paths from the value on to which a place leads
abbrev pub below_all : List (List ℕ) → List (List (List ℕ)) → List (List (List ℕ))
below_all [] paths = paths
below_all (token ∷ tokens) paths = below_all tokens (below token paths)

-- ---- values

-- what stands for a value that is hidden: no JSON text (RFC 8259, 3)
abbrev pub mark : List ℕ
mark = codes "hidden"

-- what is shown of a value: all of it, or the mark
abbrev pub unless_hidden : List (List (List ℕ)) → List ℕ → List ℕ
unless_hidden paths json = if hides_whole paths then mark else json

abbrev mutual
  -- the JSON text of a value without what is hidden
  pub shown_json : List (List (List ℕ)) → Tree → List ℕ
  shown_json paths (text value) = unless_hidden paths (json_string value)
  shown_json paths (sequence ts) = unless_hidden paths (codes "[" ++ shown_elements paths [] 0 ts ++ codes "]")
  shown_json paths (mapping ms) = unless_hidden paths (codes "{" ++ shown_members paths [] ms ++ codes "}")

  -- elements, of which the first has this index, with `lead` before it and a comma before each other one
  pub shown_elements : List (List (List ℕ)) → List ℕ → ℕ → Elements → List ℕ
  shown_elements paths lead index no_element = []
  shown_elements paths lead index (element t ts) =
      lead ++ shown_json (below (decimal index) paths) t ++ shown_elements paths (codes ",") (index + 1) ts

  -- members, with `lead` before the first and a comma before each other one
  pub shown_members : List (List (List ℕ)) → List ℕ → Members → List ℕ
  shown_members paths lead no_member = []
  shown_members paths lead (member key t ms) =
      lead ++ json_member key (shown_json (below key paths) t) ++ shown_members paths (codes ",") ms

-- the same of a value at the place to which a pointer leads, from where the paths lead; the mark if it is no pointer
abbrev pub shown_at : Result (List (List ℕ)) PathFault → List (List (List ℕ)) → Tree → List ℕ
shown_at (Ok place) paths t = shown_json (below_all place paths) t
shown_at (Err fault) paths t = mark
