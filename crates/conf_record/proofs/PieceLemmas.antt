-- The parts of a tree that a `Config` keeps.
use Rattle.std.proofs.Common.{◌≡◌, ◌<◌, ◌≤◌, ℕ, true, ◌&&◌, List, [], ◌∷◌, ◌++◌, codes, length, max, map, not, Option, Some, None}
use Rattle.std.proofs.Common.{option_map, String, Global, string_bytes, append_assoc, append-nil, arith, refl, sym, ap, ◌∙◌}
use Rattle.std.proofs.lemmas.List.{map-append}
use Rattle.conf_record.proofs.Prelude.{and_parts, chars, byte_len, key_lines, value_at, lines_after_dash, elements_after, members_after}
use Rattle.conf_record.proofs.Prelude.{sequence, mapping, Elements, no_element, element, Members, no_member, member, has_key, distinct}
use Rattle.conf_record.proofs.Prelude.{elements_distinct, members_distinct, depth, elements_depth, members_depth, AreTextElements}
use Rattle.conf_record.proofs.Prelude.{AreTextMembers, own_limits, IsKept, Pair, tree_of, elements_of, members_of, text_bytes, Text}
use Rattle.conf_record.{proofs.{Prelude.{entries_of, Edit, edit_of}, SizeLemmas.{element_least, value_size}}, specs.RecordsRead.values}
use Rattle.conf_record.specs.{RecordsRead.{edit_in, ahead, edits_of, entries}, Reading.{AreKept, AreKeptElements, trees_of}}
use Rattle.yaml_writer.proofs.SizeLaws.{three}
use Rattle.yaml_data.specs.declared.tree.Tree as code
use Rattle.conf_state.specs.declared.command.Edit as edits

max_parts : (a b c : ℕ) → max a b < c → (a < c) × (b < c)
max_parts a b c h = (omega arith, omega arith)

values_kept : (ms : Members) → AreTextMembers ms → members_distinct ms ≡ true → members_depth ms < own_limits.depth
    → byte_len (members_after ms 0) ≤ own_limits.style → AreKept (values ms)
values_kept no_member are keys deep long = tt
values_kept (member key t ms) are keys deep long =
    let parts = and_parts (not (has_key key ms) && distinct t) (members_distinct ms) keys in
    let own = (and_parts (not (has_key key ms)) (distinct t) parts.0).1 in
    let levels = max_parts (depth t) (members_depth ms) own_limits.depth deep in
    let bytes = three (key_lines 0 key) (value_at t 0) (members_after ms 0) in
    let alone = (value_size t).least in
    let low = levels.0 in (
      record { texts = are.1; keys = own; deep = omega (arith, low); long = omega (arith, bytes, alone, long) },
      values_kept ms are.2 parts.1 levels.1 (omega (arith, bytes, long)),
    )

-- the values of a mapping within the limits are within them
pub parts_kept : (ms : Members) → IsKept (mapping ms) → AreKept (values ms)
parts_kept no_member kept = tt
parts_kept (member key t ms) kept =
    let deep = kept.deep in
    values_kept (member key t ms) kept.texts kept.keys (omega (arith, deep)) kept.long

-- the values of a mapping's pairs
own_values : (items : List Pair) → AreKept (values (members_of items)) → AreKept (trees_of items)
own_values [] kept = tt
own_values (p ∷ ps) kept = (kept.0, own_values ps kept.1)

-- so are the trees of pairs whose mapping is
pub own_parts : (items : List Pair) → IsKept (mapping (members_of items)) → AreKept (trees_of items)
own_parts items kept = own_values items (parts_kept (members_of items) kept)

elements_kept : (ts : Elements) → AreTextElements ts → elements_distinct ts ≡ true
    → elements_depth ts < own_limits.depth → byte_len (elements_after ts 0) ≤ own_limits.style → AreKeptElements ts
elements_kept no_element are keys deep long = tt
elements_kept (element t ts) are keys deep long =
    let parts = and_parts (distinct t) (elements_distinct ts) keys in
    let levels = max_parts (depth t) (elements_depth ts) own_limits.depth deep in
    let bytes = three (codes "- ") (lines_after_dash t 0) (elements_after ts 0) in
    let alone = element_least t in
    let low = levels.0 in (
      record { texts = are.0; keys = parts.0; deep = omega (arith, low); long = omega (arith, bytes, alone, long) },
      elements_kept ts are.1 parts.1 levels.1 (omega (arith, bytes, long)),
    )

-- the elements of a sequence within the limits are within them
pub items_kept : (ts : Elements) → IsKept (sequence ts) → AreKeptElements ts
items_kept no_element kept = tt
items_kept (element t ts) kept =
    let deep = kept.deep in
    elements_kept (element t ts) kept.texts kept.keys (omega (arith, deep)) kept.long

-- ---- pairs that are moved, in their order

-- a configuration of the code under its name
abbrev pub Named : Type 0
Named = String Global × code.Tree

pub record MovedSoFar (all : List Pair) (done : List Named) (left : List Pair) : Type 0 where
  pub whole : entries_of done ++ entries (members_of left) ≡ entries (members_of all)
  pub kept : AreKept (trees_of left)

-- one configuration more
pub entries_of-one : (done : List Named) (e : Named)
    → entries_of (done ++ e ∷ []) ≡ entries_of done ++ (chars (string_bytes e.0), tree_of e.1) ∷ []
entries_of-one [] e = refl
entries_of-one (d ∷ ds) e = ap (λ es. (chars (string_bytes d.0), tree_of d.1) ∷ es) (entries_of-one ds e)

-- at first no pair was moved
pub none_moved : (all : List Pair) → AreKept (trees_of all) → MovedSoFar all [] all
none_moved all kept = record { whole = refl; kept = kept }

-- one more pair is moved
pub one_moved : (all : List Pair) (done : List Named) (left : List Pair) (key : Text) (name : String Global) (t u : code.Tree)
    → string_bytes name ≡ text_bytes key → u ≡ t → MovedSoFar all done ((key, t) ∷ left)
    → (new : List Named) → new ≡ done ++ (name, u) ∷ [] → MovedSoFar all new left
one_moved all done left key name t u spelled same so new is =
    let rest = entries (members_of left) in
    record {
      whole =
          ap (λ xs. entries_of xs ++ rest) is
          ∙ ap (λ es. es ++ rest) (entries_of-one done (name, u))
          ∙ ap (λ b. (entries_of done ++ (chars b, tree_of u) ∷ []) ++ rest) spelled
          ∙ ap (λ v. (entries_of done ++ (chars (text_bytes key), tree_of v) ∷ []) ++ rest) same
          ∙ append_assoc (entries_of done) ((chars (text_bytes key), tree_of t) ∷ []) rest
          ∙ so.whole;
      kept = so.kept.1;
    }

-- where no pair is left, all were moved
pub all_moved : (all : List Pair) (done : List Named) (left : List Pair) → MovedSoFar all done left → length left ≡ 0
    → entries_of done ≡ entries (members_of all)
all_moved all done [] so none = sym (append-nil (entries_of done)) ∙ so.whole
all_moved all done (p ∷ ps) so none = absurd (omega arith)

-- ---- edits that are read, in their order

pub record ReadSoFar (all : List code.Tree) (done : List edits.Edit) (left : List code.Tree) : Type 0 where
  pub whole : option_map (λ es. map edit_of done ++ es) (edits_of (elements_of left)) ≡ edits_of (elements_of all)
  pub kept : AreKeptElements (elements_of left)

same_option : (o : Option (List Edit)) → option_map (λ es. [] ++ es) o ≡ o
same_option None = refl
same_option (Some es) = refl

-- at first no edit was read
pub none_read : (all : List code.Tree) → AreKeptElements (elements_of all) → ReadSoFar all [] all
none_read all kept = record { whole = same_option (edits_of (elements_of all)); kept = kept }

moved_over : (first : List Edit) (e : Edit) (o : Option (List Edit))
    → option_map (λ es. (first ++ e ∷ []) ++ es) o ≡ option_map (λ es. first ++ es) (option_map (λ rest. e ∷ rest) o)
moved_over first e None = refl
moved_over first e (Some es) = ap Some (append_assoc first (e ∷ []) es)

-- one more edit is read
pub one_read : (all : List code.Tree) (done : List edits.Edit) (t : code.Tree) (left : List code.Tree)
    (e : edits.Edit) → Some (edit_of e) ≡ edit_in (tree_of t)
    → ReadSoFar all done (t ∷ left) → (new : List edits.Edit) → new ≡ done ++ e ∷ [] → ReadSoFar all new left
one_read all done t left e is so new pushed = record {
  whole =
      ap (λ es. option_map (λ more. es ++ more) (edits_of (elements_of left))) (ap (map edit_of) pushed ∙ map-append edit_of done (e ∷ []))
      ∙ moved_over (map edit_of done) (edit_of e) (edits_of (elements_of left))
      ∙ ap (λ first. option_map (λ es. map edit_of done ++ es) (ahead first (edits_of (elements_of left)))) is
      ∙ so.whole;
  kept = so.kept.1;
}

-- an element that is no edit
pub none_there : (all : List code.Tree) (done : List edits.Edit) (t : code.Tree) (left : List code.Tree)
    → None ≡ edit_in (tree_of t) → ReadSoFar all done (t ∷ left)
    → None ≡ edits_of (elements_of all)
none_there all done t left is so =
    ap (λ first. option_map (λ es. map edit_of done ++ es) (ahead first (edits_of (elements_of left)))) is ∙ so.whole
