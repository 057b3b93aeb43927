-- What an edit inside a configuration makes of a state's configurations and of their length.
use Rattle.std.proofs.Common.{inl, inr, ◌⊎◌, ◌==◌, length, ◌≡◌, ℕ, ◌+◌, ◌*◌, ◌<◌, ◌≤◌, nat_le, Bool, true, false, if◌then◌else◌, List, []}
use Rattle.std.proofs.Common.{◌∷◌, ◌++◌, Option, Some, None, is_some, option_map, Result, Ok, Err, String, Global, IsUtf8, refl, sym, ap}
use Rattle.std.proofs.Common.{subst, ◌∙◌, arith}
use Rattle.conf_state.proofs.Prelude.{nat_tests, lookup, chars, Good, byte_len, spaces, same_text, depth, style_text, key_lines, value_at}
use Rattle.conf_state.proofs.Prelude.{byte_len-append, same_text-true, tree_of, length_at, Changes, path_of, pointer_text, slash}
use Rattle.conf_state.proofs.Prelude.{first_stray, tokens_or_place, chars-nil, encodes-chars, Change, PathFault, config_limits, Edit}
use Rattle.{yaml_data.specs.declared.tree.Tree.Tree, yaml_writer.proofs.{SizeLaws.value_law, SizeBounds.{value_bound, value_small}}}
use lib.Utf8.{encodes}
use Rattle.{yaml_config.specs.declared.edit.Edit.TheVariants.Delete, conf_state.specs.{Configs.is_name, BaseTexts.entry_length}}
use Rattle.conf_state.specs.{BaseTexts.entries_length, Edits.{configs_with_edit, configs_after_edit, configs_edited, absence}}
use Rattle.conf_state.specs.{Kept.{entries_of, ArePlain}, Names.good_name, Limits.AreConfigs, PathFaults.store_fault_of, States.Entry}
use Rattle.conf_state.specs.{States.{base_limit, config_named, put_config, cut_config}, Steps.{and_then, by_path, found, configs_after}}
use Rattle.conf_state.specs.{Steps.configs_after_delete, Commands.delete_at, declared.fault.StoreFault.TheVariants.OutOfMemory}
use Rattle.conf_state.proofs.{EntryLemmas.lookup-named, StepLemmas.by_absence, LimitLemmas.{entries_length-found, entries_length-put}}
use Rattle.yaml_grammar.specs.Trees as grammar
use Rattle.json_pointer.specs.declared.fault.PathFault.TheVariants as path_faults

-- a configuration under a name keeps the limits
pub named-good : (es : List Entry) (name : List ℕ) (t : grammar.Tree) → AreConfigs es → config_named es name ≡ Some t → Good t config_limits
named-good [] name t all is = cc
named-good (e ∷ es) name t all is = by (same_text name e.0) is (named-good es name t all.2)
  where
    by : (b : Bool) → (if b then Some e.1 else config_named es name) ≡ Some t
        → (config_named es name ≡ Some t → Good t config_limits) → Good t config_limits
    by true found rest = let same : e.1 ≡ t = cc in subst (λ x. Good x config_limits) same all.1
    by false found rest = rest found

-- a name under which a configuration is found is good
pub found-good : (es : List Entry) (name : List ℕ) → AreConfigs es → is_some (config_named es name) ≡ true → good_name name ≡ true
found-good [] name all is = cc
found-good (e ∷ es) name all is = by (same_text name e.0) refl is (found-good es name all.2)
  where
    by : (b : Bool) → same_text name e.0 ≡ b → is_some (if b then Some e.1 else config_named es name) ≡ true
        → (is_some (config_named es name) ≡ true → good_name name ≡ true) → good_name name ≡ true
    by true same here rest = ap good_name (same_text-true name e.0 same) ∙ all.0
    by false other here rest = rest here

-- ---- what the map finds under a name

-- what the map finds under a name is the configuration of that name
pub found-named : (q : List ℕ) → IsUtf8 q → (es : List (String Global × Tree)) → ArePlain es → (v : Tree)
    → lookup (is_name q) es ≡ Some v → config_named (entries_of es) (chars q) ≡ Some (tree_of v)
found-named q utf8 es plain v is = sym (lookup-named q utf8 es plain) ∙ ap (option_map tree_of) is

-- a result is one tree at most
pub same_edit : {E : Type 0} (r : Result grammar.Tree E) (t u : grammar.Tree) → r ≡ Ok t → r ≡ Ok u → t ≡ u
same_edit r t u p q = cc

-- ---- lengths

entry_value : (name : List ℕ) (t : grammar.Tree) → entry_length name t ≡ byte_len (spaces 2 ++ key_lines 2 name) + byte_len (value_at t 2)
unfolding entry_length
entry_value name t = byte_len-append (spaces 2 ++ key_lines 2 name) (value_at t 2)

-- the bytes of all configurations after an edit of one, from the measured change
pub edit-length : (es : List Entry) (name : List ℕ) (old new : grammar.Tree) (change : Change)
    → config_named es name ≡ Some old → Changes change old new
    → entries_length (put_config es name new) + length_at change.removed 4 ≡ entries_length es + length_at change.added 4
edit-length es name old new change there is =
    let value = is.after_key 2 in
    omega (
      arith,
      value,
      entries_length-found es name old there,
      entries_length-put es name new,
      entry_value name old,
      entry_value name new,
    )

value_fits : (t : grammar.Tree) → byte_len (style_text t) ≤ config_limits.style → byte_len (value_at t 2) ≤ 16 * config_limits.style
value_fits t short = omega (arith, value_law t 2, value_bound t, value_small t)

-- these bytes stay within a 64-bit number
pub edit-short : (es : List Entry) (name : List ℕ) (old new : grammar.Tree) → config_named es name ≡ Some old
    → entries_length es ≤ base_limit
    → byte_len (style_text new) ≤ config_limits.style → entries_length (put_config es name new) < 18446744073709551616
edit-short es name old new there short small =
    omega (
      arith,
      value_fits new small,
      entries_length-found es name old there,
      entries_length-put es name new,
      entry_value name old,
      entry_value name new,
    )

-- ---- the path of a pointer

-- what is read of a pointer is its path
pub parsed-Ok : (pointer : List ℕ) (path : List (List ℕ))
    → (◌≡◌ {A = Result (List (List ℕ)) PathFault} (Ok path) (Err path_faults.OutOfMemory)) ⊎ (Ok path ≡ path_of pointer)
    → path_of pointer ≡ Ok path
parsed-Ok pointer path (inl none) = cc
parsed-Ok pointer path (inr read) = sym read

-- or it is none, or there was no memory
pub parsed-Err : (pointer : List ℕ) (fault : PathFault)
    → (◌≡◌ {A = Result (List (List ℕ)) PathFault} (Err fault) (Err path_faults.OutOfMemory)) ⊎ (Err fault ≡ path_of pointer)
    → (fault ≡ path_faults.OutOfMemory) ⊎ (path_of pointer ≡ Err fault)
parsed-Err pointer fault (inl none) = let same : fault ≡ path_faults.OutOfMemory = cc in inl same
parsed-Err pointer fault (inr read) = inr (sym read)

-- a fault of a path is one of the store
pub path-refused : {A : Type 0} (r : Result A PathFault) (fault : PathFault) → (fault ≡ path_faults.OutOfMemory) ⊎ (r ≡ Err fault)
    → (store_fault_of fault ≡ OutOfMemory) ⊎ (by_path r ≡ Err (store_fault_of fault))
path-refused r fault (inl none) = inl (ap store_fault_of none)
path-refused r (path_faults.BadPath at) (inr e) = inr (ap by_path e)
path-refused r (path_faults.NoSuchPlace step) (inr e) = inr (ap by_path e)
path-refused r (path_faults.NotIndex step) (inr e) = inr (ap by_path e)
path-refused r path_faults.OutOfMemory (inr e) = inl refl

-- a pointer with a character has a step
pub pointer-steps : (pointer : List ℕ) (path : List (List ℕ)) → IsUtf8 pointer → 0 < length pointer
    → chars pointer ≡ pointer_text path → 0 < length path
pointer-steps pointer [] utf8 some is =
    let none : pointer ≡ [] = sym (encodes-chars pointer utf8) ∙ ap encodes is in
    omega (arith, some, ap length none)
pointer-steps pointer (token ∷ tokens) utf8 some is = omega arith

-- a pointer of no bytes has no characters
pub empty-pointer : (pointer : List ℕ) → length pointer ≡ 0 → chars pointer ≡ []
empty-pointer [] none = chars-nil
empty-pointer (b ∷ bs) none = absurd (omega (arith, none))

-- ---- the configurations after an edit

-- a delete at a pointer that has a step is an edit
pub delete-edits : (es : List Entry) (name pointer : List ℕ) → IsUtf8 pointer → 0 < length pointer
    → configs_after es (delete_at name (chars pointer)) ≡ configs_after_edit es name Delete (chars pointer)
delete-edits es name pointer utf8 some = by (chars pointer) refl
  where
    at_path : (t : grammar.Tree) (text : List ℕ) (r : Result (List (List ℕ)) PathFault) → path_of text ≡ r → 0 < length text
        → and_then (by_path r) (configs_after_delete es name t) ≡ and_then (by_path r) (configs_with_edit es name Delete t)
    at_path t text (Ok (token ∷ tokens)) is more = refl
    at_path t [] (Ok []) is more = absurd (omega (arith, more))
    at_path t (c ∷ cs) (Ok []) is more = first (c == slash) refl (first_stray (c ∷ cs)) is
      where
        first : (s : Bool) → (c == slash) ≡ s → (o : Option ℕ) → tokens_or_place (if s then o else Some 0) (c ∷ cs) ≡ Ok []
            → Ok (cut_config es name) ≡ configs_with_edit es name Delete t []
        first true slashed None e = let none = rw slashed at e in absurd (cc)
        first true slashed (Some n) e = absurd (cc)
        first false other o e = absurd (cc)
    at_path t text (Err fault) is more = refl

    by : (text : List ℕ) → chars pointer ≡ text → configs_after es (delete_at name text) ≡ configs_after_edit es name Delete text
    by [] is = absurd (omega (arith, some, ap length (sym (encodes-chars pointer utf8) ∙ ap encodes is)))
    by (c ∷ cs) is = there (config_named es name)
      where
        there : (o : Option grammar.Tree) → and_then (found o) (λ t. and_then (by_path (path_of (c ∷ cs))) (configs_after_delete es name t))
            ≡ and_then (found o) (λ t. and_then (by_path (path_of (c ∷ cs))) (configs_with_edit es name Delete t))
        there (Some t) = at_path t (c ∷ cs) (path_of (c ∷ cs)) refl (omega arith)
        there None = refl

-- an edit under a name without a configuration is refused, as the name is good or not
pub edited-nothing : (es : List Entry) (name : List ℕ) (edit : Edit) (pointer : List ℕ) → config_named es name ≡ None
    → configs_edited es name edit pointer ≡ Err (absence name)
edited-nothing es name edit pointer absent = by_absence es name (configs_after_edit es name edit pointer) (rw absent refl)

-- an edit under a name with a configuration is made, since the name is good
pub edited-there : (es : List Entry) (name : List ℕ) (edit : Edit) (pointer : List ℕ) (t : grammar.Tree) → AreConfigs es
    → config_named es name ≡ Some t → configs_edited es name edit pointer ≡ configs_after_edit es name edit pointer
edited-there es name edit pointer t all there = rw (found-good es name all (ap is_some there)) refl

-- a number that passes the test is at most the other
pub at_most : (a b : ℕ) → nat_le a b ≡ true → a ≤ b
at_most a b e = grind (arith, nat_tests)
