-- What lines are read as.
use Rattle.std.specs.Prelude.{◌≡◌, ℕ, List, ◌++◌}
use Rattle.yaml_styled.specs.Prelude.{Tree, text, sequence, mapping, Elements, no_element, element, Members, no_member, member}
use Rattle.yaml_styled.specs.{Prelude.{scalar_lines, elements_at, members_at, Pair, tree_of, elements_of, members_of}, Taking.Took}
use Rattle.yaml_styled.specs.Sounds.{Sound}
use Rattle.yaml_data.specs.declared.tree.Tree as code

-- the lines of a tree at an indentation, the first without its spaces; those of a text come after as many
abbrev pub lines_of : Tree → ℕ → List ℕ
lines_of (text value) i = scalar_lines i value
lines_of (sequence ts) i = elements_at ts i
lines_of (mapping ms) i = members_at ms i

-- elements, and one more after them
abbrev pub elements_and : Elements → Tree → Elements
elements_and no_element t = element t no_element
elements_and (element u ts) t = element u (elements_and ts t)

-- members, and one more after them
abbrev pub members_and : Members → List ℕ → Tree → Members
members_and no_member key t = member key t no_member
members_and (member k u ms) key t = member k u (members_and ms key t)

-- lines are taken off a text that are a tree, of whose lines some are counted
pub record IsRead (Is : Tree → Type 0) (written : Tree → List ℕ) (lines : Tree → ℕ) (most : ℕ)
    (text : List ℕ) (before : ℕ) (rest : List ℕ) (after : ℕ) : Type 0 where
  pub tree : Tree
  pub is : Is tree
  pub took : Took text before (written tree) (lines tree) rest after
  pub sound : Sound tree most

-- a tree of the code that is this tree
abbrev pub IsTree : code.Tree → Tree → Type 0
IsTree made t = tree_of made ≡ t

-- any value and any tree
abbrev pub IsAny : {V : Type 0} → V → Tree → Type 0
IsAny made t = Unit {0}

-- the elements of the code that come after others are these
pub record AreElements (before now : List code.Tree) (ts : Elements) : Type 0 where
  pub own : List code.Tree
  pub stand : now ≡ before ++ own
  pub are : elements_of own ≡ ts

-- and so are members
pub record AreMembers (before now : List Pair) (ms : Members) : Type 0 where
  pub own : List Pair
  pub stand : now ≡ before ++ own
  pub are : members_of own ≡ ms

-- any elements, and any members
abbrev pub AreAnyElements : List code.Tree → List code.Tree → Elements → Type 0
AreAnyElements before now ts = Unit {0}

abbrev pub AreAnyMembers : List Pair → List Pair → Members → Type 0
AreAnyMembers before now ms = Unit {0}
