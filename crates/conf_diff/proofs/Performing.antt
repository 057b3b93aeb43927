-- What the edits between trees, configurations and states make, where no limit is in the way.
use Rattle.std.proofs.Common.{◌≡◌, ℕ, Bool, true, false, not, List, [], ◌∷◌, ◌++◌, map, Option, Some, None, Result, Ok, Err, if◌then◌else◌}
use Rattle.std.proofs.Common.{◌&&◌, nat_lt, refl, sym, ap, subst, ◌∙◌}
use Rattle.conf_diff.proofs.Prelude.{Tree, Entry, Edit, import_as, set_at, delete_at, name_of, edit_of, good_name, names_of, config_named}
use Rattle.conf_diff.proofs.Prelude.{put_config, cut_config, has_name, names_differ, and_then, by_path, found, BadName, StoreFault, path_of}
use Rattle.conf_diff.proofs.Prelude.{path_of-pointer_text, pointer_text, set, PathFault, tree_and_then, tree_edited, Difference}
use Rattle.conf_diff.proofs.Prelude.{differences, written, differences-made, differences-same, places, made, IsPlace, ArePlaces}
use Rattle.conf_diff.proofs.Prelude.{named-put-same, put-put-same, put_config-same, cut-none, AreConfigs, and_parts, not-true, same_text}
use Rattle.conf_diff.proofs.{Prelude.{same_text-true, same_text-self, distinct}, Joined.{named-join, put-join, put-new, cut-join}}
use Rattle.conf_diff.{proofs.Joined.{join-next, join-none, AreFree, AreFree-next}, specs.{EditTexts.lines_length, StateEdits.AreKept}}
use Rattle.conf_diff.specs.StateEdits.{edit_at, edit_in, few_bytes, place_edits, shorter, tree_edits, config_edits, new_entries}
use Rattle.conf_diff.specs.{StateEdits.entry_edits, Freely.{freely_deleted, freely_after, freely_edited, all_freely_edited, with_config}}
use Rattle.conf_state.specs.declared.command.Edit as code

-- ---- what a result comes from

tree_and_then-Ok : (r : Result Tree PathFault) (next : Tree → Result Tree PathFault) (x : Tree) → tree_and_then r next ≡ Ok x
    → (u : Tree) × (r ≡ Ok u) × (next u ≡ Ok x)
tree_and_then-Ok (Ok u) next x is = (u, refl, is)
tree_and_then-Ok (Err fault) next x is = cc

-- ---- one edit

module _ (es : List Entry) (name : List ℕ) (named : good_name name ≡ true) where
  -- the name is good
  edited-named : (edit : Edit) → name_of edit ≡ name → freely_edited es edit ≡ freely_after es edit
  edited-named edit is = ap (λ b. if b then freely_after es edit else Err BadName) (ap good_name is ∙ named)

  pub import-made : (t : Tree) → freely_edited es (import_as name t) ≡ Ok (put_config es name t)
  import-made t = edited-named (import_as name t) refl

  module _ (t : Tree) (there : config_named es name ≡ Some t) where
    set-made : (path : List (List ℕ)) (v u : Tree) → set t path v ≡ Ok u
        → freely_edited es (set_at name (pointer_text path) v) ≡ Ok (put_config es name u)
    set-made path v u is =
        edited-named (set_at name (pointer_text path) v) refl
        ∙ ap (λ o. and_then (found o) (λ x. and_then (by_path (path_of (pointer_text path)))
        (λ tokens. and_then (by_path (set x tokens v)) (λ y. Ok (put_config es name y))))) there
        ∙ ap (λ r. and_then (by_path r) (λ tokens. and_then (by_path (set t tokens v)) (λ y. Ok (put_config es name y))))
        (path_of-pointer_text path)
        ∙ ap (λ r. and_then (by_path r) (λ y. Ok (put_config es name y))) is

    deleted : (path : List (List ℕ)) → freely_edited es (delete_at name (pointer_text path)) ≡ freely_deleted es name t path
    deleted path =
        edited-named (delete_at name (pointer_text path)) refl
        ∙ ap (λ o. and_then (found o) (λ x. and_then (by_path (path_of (pointer_text path))) (freely_deleted es name x))) there
        ∙ ap (λ r. and_then (by_path r) (freely_deleted es name t)) (path_of-pointer_text path)

    -- the whole configuration
    pub delete-made : freely_edited es (delete_at name []) ≡ Ok (cut_config es name)
    delete-made = deleted []

    -- an edit at a place
    difference-made : (path : List (List ℕ)) (value : Option Tree) (u : Tree) → IsPlace path value → tree_edited t path value ≡ Ok u
        → freely_edited es (edit_at name (pointer_text path) value) ≡ Ok (put_config es name u)
    difference-made [] None u place is = absurd place
    difference-made [] (Some v) u place is = set-made [] v u is
    difference-made (token ∷ path) None u place is =
        deleted (token ∷ path) ∙ ap (λ r. and_then (by_path r) (λ y. Ok (put_config es name y))) is
    difference-made (token ∷ path) (Some v) u place is = set-made (token ∷ path) v u is

-- ---- edits in a row

pub edits-first : (es next : List Entry) (edit : Edit) (edits : List Edit) → freely_edited es edit ≡ Ok next
    → all_freely_edited es (edit ∷ edits) ≡ all_freely_edited next edits
edits-first es next edit edits is = ap (λ r. and_then r (λ xs. all_freely_edited xs edits)) is

and_then-Ok : {A B : Type 0} (r : Result A StoreFault) (next : A → Result B StoreFault) (x : B) → and_then r next ≡ Ok x
    → (u : A) × (r ≡ Ok u) × (next u ≡ Ok x)
and_then-Ok (Ok u) next x is = (u, refl, is)
and_then-Ok (Err fault) next x is = cc

pub edits-append : (edits more : List Edit) (es next : List Entry) → all_freely_edited es edits ≡ Ok next
    → all_freely_edited es (edits ++ more) ≡ all_freely_edited next more
edits-append [] more es next is = let same : es ≡ next = cc in ap (λ xs. all_freely_edited xs more) same
edits-append (edit ∷ edits) more es next is =
    let p = and_then-Ok (freely_edited es edit) (λ xs. all_freely_edited xs edits) next is in
    edits-first es p.0 edit (edits ++ more) p.1 ∙ edits-append edits more p.0 next p.2

-- ---- the edits between two trees

differences-edited : (ds : List Difference) (es : List Entry) (name : List ℕ) (t u : Tree) → good_name name ≡ true
    → config_named es name ≡ Some t → ArePlaces ds → made ds t ≡ Ok u
    → all_freely_edited es (map (edit_in name) (map written ds)) ≡ Ok (put_config es name u)
differences-edited [] es name t u named there are is =
    let same : t ≡ u = cc in
    ap Ok (sym (put_config-same es name t there) ∙ ap (put_config es name) same)
differences-edited (d ∷ ds) es name t u named there are is =
    let p = tree_and_then-Ok (tree_edited t d.path d.value) (λ x. made ds x) u is in
    let next = put_config es name p.0 in
    edits-first es next (edit_in name (written d)) (map (edit_in name) (map written ds))
    (difference-made es name named t there d.path d.value p.0 are.0 p.1)
    ∙ differences-edited ds next name p.0 u named (named-put-same es name p.0) are.1 p.2
    ∙ ap Ok (put-put-same es name u p.0)

pub tree_edits-made : (es : List Entry) (name : List ℕ) (t u : Tree) → good_name name ≡ true → config_named es name ≡ Some t
    → distinct t ≡ true → distinct u ≡ true → all_freely_edited es (tree_edits name t u) ≡ Ok (put_config es name u)
tree_edits-made es name t u named there first second =
    by (nat_lt few_bytes (lines_length at_places) && nat_lt (lines_length (import_as name u ∷ [])) (lines_length at_places))
  where
    at_places : List Edit
    at_places = place_edits name t u

    by : (whole : Bool) → all_freely_edited es (if whole then import_as name u ∷ [] else at_places) ≡ Ok (put_config es name u)
    by true = edits-first es (put_config es name u) (import_as name u) [] (import-made es name named u)
    by false = differences-edited (differences t u) es name t u named there (places t u) (differences-made t u first second)

pub tree_edits-same : (name : List ℕ) (t : Tree) → tree_edits name t t ≡ []
tree_edits-same name t =
    ap (λ ds. shorter (import_as name t) (map (edit_in name) (map written ds))) (differences-same t)

-- ---- the edits between two configurations

pub config_edits-made : (es : List Entry) (name : List ℕ) (first second : Option Tree) → AreKept first second
    → good_name name ≡ true → config_named es name ≡ first
    → all_freely_edited es (config_edits name first second) ≡ Ok (with_config es name second)
config_edits-made es name None None kept named there = ap Ok (sym (cut-none es name there))
config_edits-made es name None (Some u) kept named there =
    edits-first es (put_config es name u) (import_as name u) [] (import-made es name named u)
config_edits-made es name (Some t) None kept named there =
    edits-first es (cut_config es name) (delete_at name []) [] (delete-made es name named t there)
config_edits-made es name (Some t) (Some u) kept named there = tree_edits-made es name t u named there kept.0.keys kept.1.keys

pub config_edits-same : (name : List ℕ) (o : Option Tree) → config_edits name o o ≡ []
config_edits-same name None = refl
config_edits-same name (Some t) = tree_edits-same name t

-- ---- the edits between two states

-- the first name is not among the others, whose names differ
apart : (e : Entry) (es : List Entry) → names_differ (names_of (e ∷ es)) ≡ true
    → (has_name e.0 (names_of es) ≡ false) × (names_differ (names_of es) ≡ true)
apart e es differ =
    let parts = and_parts (not (has_name e.0 (names_of es))) (names_differ (names_of es)) differ in
    (not-true (has_name e.0 (names_of es)) parts.0, parts.1)

new_entries-made : (fs done : List Entry) → AreFree done fs → names_differ (names_of fs) ≡ true → AreConfigs fs
    → all_freely_edited done (new_entries fs) ≡ Ok (done ++ fs)
new_entries-made [] done free differ fine = ap Ok (sym (join-none done))
new_entries-made (f ∷ fs) done free differ fine =
    let own = apart f fs differ in
    let next = done ++ f ∷ [] in
    edits-first done next (import_as f.0 f.1) (new_entries fs)
    (import-made done f.0 fine.0 f.1 ∙ ap Ok (put-new done f.0 f.1 free.0))
    ∙ new_entries-made fs next (AreFree-next done fs f free.1 own.0) own.1 fine.2 ∙ ap Ok (join-next done fs f)

-- a configuration that is deleted
deleted-first : (done es : List Entry) (e : Entry) (edits : List Edit) → has_name e.0 (names_of done) ≡ false → good_name e.0 ≡ true
    → all_freely_edited (done ++ e ∷ es) (delete_at e.0 [] ∷ edits) ≡ all_freely_edited (done ++ es) edits
deleted-first done es e edits free named =
    edits-first (done ++ e ∷ es) (done ++ es) (delete_at e.0 []) edits
    (delete-made (done ++ e ∷ es) e.0 named e.1 (named-join done es e free) ∙ ap Ok (cut-join done es e free))

pub entry_edits-made : (es done fs : List Entry) → AreFree done es → AreFree done fs → names_differ (names_of es) ≡ true
    → names_differ (names_of fs) ≡ true → AreConfigs es → AreConfigs fs
    → all_freely_edited (done ++ es) (entry_edits es fs) ≡ Ok (done ++ fs)
entry_edits-made [] done fs free other differ apart_too fine good =
    ap (λ xs. all_freely_edited xs (new_entries fs)) (join-none done) ∙ new_entries-made fs done other apart_too good
entry_edits-made (e ∷ es) done [] free other differ apart_too fine good =
    deleted-first done es e (entry_edits es []) free.0 fine.0
    ∙ entry_edits-made es done [] free.1 tt (apart e es differ).1 refl fine.2 tt
entry_edits-made (e ∷ es) done (f ∷ fs) free other differ apart_too fine good =
    let own = apart e es differ in
    let its = apart f fs apart_too in
    let P : Bool → Type 0 = λ b. same_text e.0 f.0 ≡ b
    → all_freely_edited (done ++ e ∷ es) (if b then tree_edits e.0 e.1 f.1 ++ entry_edits es fs
    else delete_at e.0 [] ∷ entry_edits es (f ∷ fs)) ≡ Ok (done ++ f ∷ fs) in
    (elim (same_text e.0 f.0) as P [
      | true ↦ λ same.
          let named : e.0 ≡ f.0 = same_text-true e.0 f.0 same in
          let next = done ++ f ∷ [] in
          let gone : has_name f.0 (names_of es) ≡ false = subst (λ x. has_name x (names_of es) ≡ false) named own.0 in
          edits-append (tree_edits e.0 e.1 f.1) (entry_edits es fs) (done ++ e ∷ es) (next ++ es)
          (tree_edits-made (done ++ e ∷ es) e.0 e.1 f.1 fine.0 (named-join done es e free.0) fine.1.keys good.1.keys
          ∙ ap Ok (put-join done es e f.1 free.0 ∙ ap (λ x. done ++ (x, f.1) ∷ es) named ∙ sym (join-next done es f)))
          ∙ entry_edits-made es next fs (AreFree-next done es f free.1 gone) (AreFree-next done fs f other.1 its.0) own.1 its.1
          fine.2 good.2
          ∙ ap Ok (join-next done fs f)
      | false ↦ λ differs.
          deleted-first done es e (entry_edits es (f ∷ fs)) free.0 fine.0
          ∙ entry_edits-made es done (f ∷ fs) free.1 other own.1 apart_too fine.2 good
    ]) refl

pub entry_edits-same : (es : List Entry) → entry_edits es es ≡ []
entry_edits-same [] = refl
entry_edits-same (e ∷ es) =
    ap (λ b. if b then tree_edits e.0 e.1 e.1 ++ entry_edits es es else delete_at e.0 [] ∷ entry_edits es (e ∷ es)) (same_text-self e.0)
    ∙ ap (λ xs. xs ++ entry_edits es es) (tree_edits-same e.0 e.1) ∙ entry_edits-same es

-- where the edits mean none, there are none
pub no_edits : (es : List code.Edit) → map edit_of es ≡ [] → es ≡ []
no_edits [] none = refl
no_edits (e ∷ es) none = cc
