-- The values that a difference of two trees sets are parts of the second tree, and so keep its limits.
use Rattle.std.proofs.Common.{◌≡◌, ℕ, suc, ◌-◌, ◌+◌, ◌==◌, ◌≤◌, nat_lt, Bool, true, false, not, ◌&&◌, List, [], ◌∷◌, ◌++◌, map, codes}
use Rattle.std.proofs.Common.{Option, Some, None, if◌then◌else◌, sym, subst, arith}
use Rattle.conf_diff.proofs.Prelude.{Tree, text, sequence, mapping, Elements, no_element, element, Members, no_member, member, depth}
use Rattle.conf_diff.proofs.Prelude.{elements_depth, members_depth, distinct, elements_distinct, members_distinct, has_key, byte_len}
use Rattle.conf_diff.proofs.Prelude.{style_text, lines_after_dash, elements_at, elements_after, key_lines, value_at, members_at}
use Rattle.conf_diff.proofs.Prelude.{members_after, spaces, three, elements_law, members_law, same_text, and_parts, before_end, count}
use Rattle.conf_diff.proofs.Prelude.{is_set_whole, Change, change_of, changes_of, Difference, below, differences, element_differences, here}
use Rattle.conf_diff.proofs.Prelude.{index_token, member_differences, new_elements, new_members, written, IsKept, own_limits}
use Rattle.conf_diff.{proofs.Prelude.{tree_of-IsTextTree}, specs.StateEdits.IsKeptValue}
use Rattle.tree_diff.specs.declared.edit.Edit.{Edit as TreeEdit}
use Rattle.tree_diff.specs.declared.edit.Edit.TheVariants as edits

-- ---- a value among others is no larger than all of them

pub record IsInside (u : Tree) (bytes levels : ℕ) : Type 0 where
  pub small : byte_len (style_text u) ≤ bytes
  pub shallow : depth u ≤ levels
  pub keys : distinct u ≡ true

abbrev pub ValueInside : Option Tree → ℕ → ℕ → Type 0
ValueInside None bytes levels = Unit {0}
ValueInside (Some u) bytes levels = IsInside u bytes levels

abbrev pub AreInside : List Difference → ℕ → ℕ → Type 0
AreInside [] bytes levels = Unit {0}
AreInside (d ∷ ds) bytes levels = ValueInside d.value bytes levels × AreInside ds bytes levels

value-wider : (o : Option Tree) (b c l m : ℕ) → b ≤ c → l ≤ m → ValueInside o b l → ValueInside o c m
value-wider None b c l m less lower inside = tt
value-wider (Some u) b c l m less lower inside =
    record { small = omega (arith, inside.small); shallow = omega (arith, inside.shallow); keys = inside.keys }

all-wider : (ds : List Difference) (b c l m : ℕ) → b ≤ c → l ≤ m → AreInside ds b l → AreInside ds c m
all-wider [] b c l m less lower inside = tt
all-wider (d ∷ ds) b c l m less lower inside =
    (value-wider d.value b c l m less lower inside.0, all-wider ds b c l m less lower inside.1)

all-append : (ds es : List Difference) (b l : ℕ) → AreInside ds b l → AreInside es b l → AreInside (ds ++ es) b l
all-append [] es b l first second = second
all-append (d ∷ ds) es b l first second = (first.0, all-append ds es b l first.1 second)

all-below : (token : List ℕ) (ds : List Difference) (b l : ℕ) → AreInside ds b l → AreInside (map (below token) ds) b l
all-below token [] b l inside = tt
all-below token (d ∷ ds) b l inside = (inside.0, all-below token ds b l inside.1)

-- ---- the bytes of a part

element_least : (t : Tree) → byte_len (style_text t) ≤ byte_len (lines_after_dash t 0)
element_least (text value) = omega arith
element_least (sequence ts) = omega (arith, elements_law ts 2)
element_least (mapping ms) = omega (arith, members_law ms 2)

value_least : (t : Tree) → byte_len (style_text t) ≤ byte_len (value_at t 0)
value_least (text value) = omega arith
value_least (sequence no_element) = omega arith
value_least (sequence (element t ts)) =
    omega (arith, elements_law (element t ts) 2, three (codes "\n") (spaces 2) (elements_at (element t ts) 2))
value_least (mapping no_member) = omega arith
value_least (mapping (member key t ms)) =
    omega (arith, members_law (member key t ms) 2, three (codes "\n") (spaces 2) (members_at (member key t ms) 2))

first_element : (t : Tree) (ts : Elements) → byte_len (style_text t) ≤ byte_len (elements_after (element t ts) 0)
first_element t ts =
    let least = element_least t in
    let lines = three (codes "- ") (lines_after_dash t 0) (elements_after ts 0) in
    omega arith

other_elements : (t : Tree) (ts : Elements) → byte_len (elements_after ts 0) ≤ byte_len (elements_after (element t ts) 0)
other_elements t ts = let lines = three (codes "- ") (lines_after_dash t 0) (elements_after ts 0) in omega arith

first_member : (key : List ℕ) (t : Tree) (ms : Members) → byte_len (style_text t) ≤ byte_len (members_after (member key t ms) 0)
first_member key t ms =
    let least = value_least t in
    let lines = three (key_lines 0 key) (value_at t 0) (members_after ms 0) in
    omega arith

other_members : (key : List ℕ) (t : Tree) (ms : Members) → byte_len (members_after ms 0) ≤ byte_len (members_after (member key t ms) 0)
other_members key t ms = let lines = three (key_lines 0 key) (value_at t 0) (members_after ms 0) in omega arith

elements_whole : (ts : Elements) → byte_len (elements_after ts 0) ≤ byte_len (style_text (sequence ts))
elements_whole no_element = omega arith
elements_whole (element t ts) = omega arith

members_whole : (ms : Members) → byte_len (members_after ms 0) ≤ byte_len (style_text (mapping ms))
members_whole no_member = omega arith
members_whole (member key t ms) = omega arith

-- ---- keys that differ

first_apart : (t : Tree) (ts : Elements) → elements_distinct (element t ts) ≡ true
    → (distinct t ≡ true) × (elements_distinct ts ≡ true)
first_apart t ts d = let p = and_parts (distinct t) (elements_distinct ts) d in (p.0, p.1)

member_apart : (key : List ℕ) (t : Tree) (ms : Members) → members_distinct (member key t ms) ≡ true
    → (distinct t ≡ true) × (members_distinct ms ≡ true)
member_apart key t ms d =
    let a = and_parts (not (has_key key ms) && distinct t) (members_distinct ms) d in
    let b = and_parts (not (has_key key ms)) (distinct t) a.0 in
    (b.1, a.1)

-- ---- the differences

whole-inside : (u : Tree) → distinct u ≡ true → AreInside (here (Some u)) (byte_len (style_text u)) (depth u)
whole-inside u d = (record { small = omega arith; shallow = omega arith; keys = d }, tt)

new_elements-inside : (us : Elements) → elements_distinct us ≡ true
    → AreInside (new_elements us) (byte_len (elements_after us 0)) (elements_depth us)
new_elements-inside no_element d = tt
new_elements-inside (element u us) d =
    let p = first_apart u us d in (
      record { small = first_element u us; shallow = omega arith; keys = p.0 },
      all-wider (new_elements us) _ _ _ _ (other_elements u us) (omega arith) (new_elements-inside us p.1),
    )

new_members-inside : (ns : Members) → members_distinct ns ≡ true
    → AreInside (new_members ns) (byte_len (members_after ns 0)) (members_depth ns)
new_members-inside no_member d = tt
new_members-inside (member key u ns) d =
    let p = member_apart key u ns d in (
      record { small = first_member key u ns; shallow = omega arith; keys = p.0 },
      all-wider (new_members ns) _ _ _ _ (other_members key u ns) (omega arith) (new_members-inside ns p.1),
    )

mutual
  pub differences-inside : (t u : Tree) → distinct u ≡ true → AreInside (differences t u) (byte_len (style_text u)) (depth u)
  differences-inside (text value) (text other) d =
      let P : Bool → Type 0 = λ b. AreInside (if b then [] else here (Some (text other))) (byte_len (style_text (text other))) 1 in
      elim (same_text value other) as P [ true ↦ tt | false ↦ whole-inside (text other) d ]
  differences-inside (text value) (sequence us) d = whole-inside (sequence us) d
  differences-inside (text value) (mapping ns) d = whole-inside (mapping ns) d
  differences-inside (sequence ts) (text other) d = whole-inside (text other) d
  differences-inside (sequence ts) (sequence us) d =
      all-wider (element_differences (before_end ts us) 0 ts us) _ _ _ _ (elements_whole us) (omega arith)
      (elements-inside ts (before_end ts us) 0 us d)
  differences-inside (sequence ts) (mapping ns) d = whole-inside (mapping ns) d
  differences-inside (mapping ms) (text other) d = whole-inside (text other) d
  differences-inside (mapping ms) (sequence us) d = whole-inside (sequence us) d
  differences-inside (mapping ms) (mapping ns) d =
      let P : Bool → Type 0 = λ b. AreInside (if b then here (Some (mapping ns)) else member_differences ms ns)
      (byte_len (style_text (mapping ns))) (suc (members_depth ns)) in
      elim (is_set_whole ms ns) as P [
        | true ↦ whole-inside (mapping ns) d
        | false ↦ all-wider (member_differences ms ns) _ _ _ _ (members_whole ns) (omega arith) (members-inside ms ns d)
      ]

  elements-inside : (ts : Elements) (ahead index : ℕ) (us : Elements) → elements_distinct us ≡ true
      → AreInside (element_differences ahead index ts us) (byte_len (elements_after us 0)) (elements_depth us)
  elements-inside no_element ahead index us d = new_elements-inside us d
  elements-inside (element t ts) ahead index no_element d = (tt, elements-inside ts ahead index no_element d)
  elements-inside (element t ts) ahead index (element u us) d =
      let p = first_apart u us d in
      let bytes = byte_len (elements_after (element u us) 0) in
      let levels = elements_depth (element u us) in
      let P : Bool → Type 0 = λ b. AreInside (if b
      then record { path = index_token index ∷ []; value = None } ∷ element_differences ahead index ts (element u us)
      else map (below (index_token index)) (differences t u) ++ element_differences (ahead - 1) (index + 1) ts us) bytes levels in
      elim ((ahead == 0) && nat_lt (count us) (count ts)) as P [
        | true ↦ (tt, elements-inside ts ahead index (element u us) d)
        | false ↦ all-append (map (below (index_token index)) (differences t u)) (element_differences (ahead - 1) (index + 1) ts us)
            bytes levels
            (all-below (index_token index) (differences t u) bytes levels
            (all-wider (differences t u) _ _ _ _ (first_element u us) (omega arith) (differences-inside t u p.0)))
            (all-wider (element_differences (ahead - 1) (index + 1) ts us) _ _ _ _ (other_elements u us) (omega arith)
            (elements-inside ts (ahead - 1) (index + 1) us p.1))
      ]

  members-inside : (ms ns : Members) → members_distinct ns ≡ true
      → AreInside (member_differences ms ns) (byte_len (members_after ns 0)) (members_depth ns)
  members-inside no_member ns d = new_members-inside ns d
  members-inside (member k t ms) no_member d = (tt, members-inside ms no_member d)
  members-inside (member k t ms) (member l u ns) d =
      let p = member_apart l u ns d in
      let bytes = byte_len (members_after (member l u ns) 0) in
      let levels = members_depth (member l u ns) in
      let P : Bool → Type 0 = λ b. AreInside (if b then map (below k) (differences t u) ++ member_differences ms ns
      else record { path = k ∷ []; value = None } ∷ member_differences ms (member l u ns)) bytes levels in
      elim (same_text k l) as P [
        | true ↦ all-append (map (below k) (differences t u)) (member_differences ms ns) bytes levels
            (all-below k (differences t u) bytes levels
            (all-wider (differences t u) _ _ _ _ (first_member l u ns) (omega arith) (differences-inside t u p.0)))
            (all-wider (member_differences ms ns) _ _ _ _ (other_members l u ns) (omega arith) (members-inside ms ns p.1))
        | false ↦ (tt, members-inside ms (member l u ns) d)
      ]

-- ---- the same of the edits of the code

-- each value is within the limits of a configuration
abbrev pub AreFine : List Change → Type 0
AreFine [] = Unit {0}
AreFine (c ∷ cs) = ValueInside c.value own_limits.style own_limits.depth × AreFine cs

written-fine : (ds : List Difference) → AreInside ds own_limits.style own_limits.depth → AreFine (map written ds)
written-fine [] inside = tt
written-fine (d ∷ ds) inside = (inside.0, written-fine ds inside.1)

pub differences-fine : (t u : Tree) (cs : List Change) → IsKept u → cs ≡ map written (differences t u) → AreFine cs
differences-fine t u cs kept is =
    subst AreFine (sym is) (written-fine (differences t u)
    (all-wider (differences t u) _ _ _ _ kept.long kept.deep (differences-inside t u kept.keys)))

-- so it may be kept
pub fine-kept : (e : TreeEdit) (es : List TreeEdit) → AreFine (changes_of (e ∷ es)) → IsKeptValue (change_of e).value
fine-kept (edits.Set path value) es fine = record {
  texts = tree_of-IsTextTree value.now;
  keys = fine.0.keys;
  deep = fine.0.shallow;
  long = fine.0.small;
}
fine-kept (edits.Delete path) es fine = tt
