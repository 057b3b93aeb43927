-- The differences of two trees, as they are found: place by place, in the order of the first tree.
use Rattle.std.specs.Prelude.{ℕ, zero, suc, ◌+◌, ◌-◌, ◌/◌, ◌%◌, ◌^◌, nat_lt, ◌==◌, ◌&&◌, if◌then◌else◌, List, [], ◌∷◌, ◌++◌, map, Option}
use Rattle.std.specs.Prelude.{Some, None, codes, decimal}
use Rattle.tree_diff.specs.Prelude.{Tree, text, sequence, mapping, Elements, no_element, element, Members, no_member, member, same_text}
use Rattle.tree_diff.specs.{Prelude.pointer_text, Choices.{count, before_end, is_set_whole}, Diffs.Change}

-- a difference: the path to its place, and the value there in the second tree; none if there is none
pub record Difference : Type 0 where
  pub path : List (List ℕ)
  pub value : Option Tree

-- one difference at the place where the trees are
abbrev pub here : Option Tree → List Difference
here v = record { path = []; value = v } ∷ []

-- a difference of two values, as one of the trees that have them at a step
abbrev pub below : List ℕ → Difference → Difference
below token d = record { path = token ∷ d.path; value = d.value }

-- a difference as an edit
abbrev pub written : Difference → Change
written d = record { pointer = pointer_text d.path; value = d.value }

-- ---- the token of an index

-- The digits of a number. `decimal` has those of a number of 64 bits; a greater one has one more than its tenth part.
abbrev pub digits_within : ℕ → ℕ → List ℕ
digits_within zero n = decimal n
digits_within (suc most) n =
    if nat_lt n (2 ^ 64) then decimal n else digits_within most (n / 10) ++ (48 + n % 10) ∷ []

-- the token that leads to the element at an index
unfoldable pub index_token : ℕ → List ℕ
index_token index = digits_within index index

-- ---- the differences

-- elements that the first sequence lacks: each is set after the last element
abbrev pub new_elements : Elements → List Difference
new_elements no_element = []
new_elements (element u us) = record { path = codes "-" ∷ []; value = Some u } ∷ new_elements us

-- members that the first mapping lacks: each is set last
abbrev pub new_members : Members → List Difference
new_members no_member = []
new_members (member key u ns) = record { path = key ∷ []; value = Some u } ∷ new_members ns

abbrev mutual
  -- texts that differ, values of two kinds, and a mapping that is set whole give way to the second one
  pub differences : Tree → Tree → List Difference
  differences (text value) (text other) = if same_text value other then [] else here (Some (text other))
  differences (text value) (sequence us) = here (Some (sequence us))
  differences (text value) (mapping ns) = here (Some (mapping ns))
  differences (sequence ts) (text other) = here (Some (text other))
  differences (sequence ts) (sequence us) = element_differences (before_end ts us) 0 ts us
  differences (sequence ts) (mapping ns) = here (Some (mapping ns))
  differences (mapping ms) (text other) = here (Some (text other))
  differences (mapping ms) (sequence us) = here (Some (sequence us))
  differences (mapping ms) (mapping ns) =
      if is_set_whole ms ns then here (Some (mapping ns)) else member_differences ms ns

  -- Of elements from an index on: those at one index are compared. Elements that are left over are deleted, as soon as
  -- so many ahead are compared; missing ones are new.
  pub element_differences : ℕ → ℕ → Elements → Elements → List Difference
  element_differences ahead index no_element us = new_elements us
  element_differences ahead index (element t ts) no_element =
      record { path = index_token index ∷ []; value = None } ∷ element_differences ahead index ts no_element
  element_differences ahead index (element t ts) (element u us) =
      if (ahead == 0) && nat_lt (count us) (count ts)
      then record { path = index_token index ∷ []; value = None } ∷ element_differences ahead index ts (element u us)
      else map (below (index_token index)) (differences t u) ++ element_differences (ahead - 1) (index + 1) ts us

  -- Of members: a key of the first mapping stays if it is the next key of the second one, and is deleted otherwise.
  -- What is left of the second one is new.
  pub member_differences : Members → Members → List Difference
  member_differences no_member ns = new_members ns
  member_differences (member key t ms) no_member =
      record { path = key ∷ []; value = None } ∷ member_differences ms no_member
  member_differences (member key t ms) (member other u ns) =
      if same_text key other then map (below key) (differences t u) ++ member_differences ms ns
      else record { path = key ∷ []; value = None } ∷ member_differences ms (member other u ns)
