-- A value inserted into a list (RFC 6902, 4.1), as a set of the whole list.
use Rattle.std.specs.Prelude.{◌≡◌, ℕ, zero, suc, ◌-◌, ◌≤◌, nat_le, if◌then◌else◌, List, [], ◌∷◌, length, get_or, Option, Some, None, IfSome}
use Rattle.std.specs.Prelude.{option_map}
use Rattle.tree_edits.specs.Prelude.{path_of, pointer_text, at, index_of, push_element, parents_of, Tree, text, sequence, mapping, Elements}
use Rattle.tree_edits.specs.{Prelude.{no_element, element, elements_of, IsKept}, declared.insertion.Point.Point, Changes.{IsSpelled, SetAt}}
use Rattle.{tree_edits.specs.Changes.{by_path, found}, tree_path.specs.Paths.{Index, number, after_last, no_index}}

-- the elements with one more before the element at an index, or behind the last one
abbrev pub insert_element : Elements → ℕ → Tree → Option Elements
insert_element ts zero v = Some (element v ts)
insert_element no_element (suc n) v = None
insert_element (element t ts) (suc n) v = option_map (element t) (insert_element ts n v)

-- the same where a token leads
abbrev pub insert_at : Elements → Index → Tree → Option Elements
insert_at ts (number n) v = insert_element ts n v
insert_at ts after_last v = Some (push_element ts v)
insert_at ts no_index v = None

-- a list with a value inserted where a token leads; none if it leads nowhere, or the tree is no list
abbrev pub list_with : Tree → List ℕ → Tree → Option Tree
list_with (text value) token v = None
list_with (sequence ts) token v = option_map sequence (insert_at ts (index_of token) v)
list_with (mapping ms) token v = None

-- the last step of a path; the empty path has none, and the empty token leads nowhere in a list
abbrev pub last_of : List (List ℕ) → List ℕ
last_of path = get_or path (length path - 1) []

-- what comes of a value that is there
abbrev pub in_value : Option Tree → (Tree → Option Tree) → Option Tree
in_value None next = None
in_value (Some t) next = next t

-- the list to which the steps of a path before the last lead, with a value inserted where the last one leads
abbrev pub list_at : Tree → List (List ℕ) → Tree → Option Tree
list_at t path v = in_value (found (at t (parents_of path))) (λ list. list_with list (last_of path) v)

-- a list that is set at a path, or another set if there is no list
abbrev pub set_or : List (List ℕ) → Option Tree → SetAt → SetAt
set_or path None other = other
set_or path (Some list) other = record { pointer = pointer_text path; value = list }

-- the list with a value inserted, set where it is; the plain set of the value if it can't be inserted
abbrev pub inserted : Tree → List ℕ → Tree → SetAt
inserted t pointer v =
    let plain : SetAt = record { pointer = pointer; value = v } in
    by_path (path_of pointer) (λ path. set_or (parents_of path) (list_at t path v) plain) plain

-- the elements as a list
abbrev pub items : Elements → List Tree
items no_element = []
items (element t ts) = t ∷ items ts

-- ---- how the code finds the place

-- the place before which a value is inserted among so many elements
abbrev pub place_of : Index → ℕ → Option ℕ
place_of (number n) count = if nat_le n count then Some n else None
place_of after_last count = Some count
place_of no_index count = None

-- the same where a token leads
abbrev pub place_in : List ℕ → ℕ → Option ℕ
place_in token count = place_of (index_of token) count

-- the list with a value inserted at a point; none if there is no point
abbrev pub list_with_point : Option Point → Tree → Option Tree
list_with_point None v = None
list_with_point (Some point) v = option_map sequence (insert_element (elements_of point.elements.now) point.place v)

-- the point is where the pointer leads, in a list that may be kept
pub record IsPoint (t : Tree) (pointer : List ℕ) (point : Option Point) : Type 0 where
  pub spelled : IsSpelled pointer
  pub leads : (v : Tree) → list_with_point point v ≡ by_path (path_of pointer) (λ path. list_at t path v) None
  pub inside : IfSome point (λ p. p.place ≤ length p.elements.now)
  pub kept : IfSome point (λ p. IsKept (sequence (elements_of p.elements.now)))
