-- An edit inside one configuration, as an edit of all configurations.
use Rattle.std.proofs.Common.{◌≡◌, ◌⊎◌, inl, inr, ℕ, ◌<◌, ◌≤◌, nat_le, false, List, Some, Result, Ok, Err, refl, ap, ◌∙◌, arith}
use Rattle.conf_state.proofs.Prelude.{nat_tests, style_text, byte_len, Tree, depth, tree_after_edit, config_limits, path_of, PathFault}
use Rattle.conf_state.proofs.{EditLemmas.edited-there, StepLemmas.{checked_tree-deep, checked_tree-large, checked_tree-within}}
use Rattle.conf_state.specs.{Limits.AreConfigs, declared.{planning.EditPlan.EditPlan, fault.StoreFault.{StoreFault, TheVariants.TooDeep}}}
use Rattle.conf_state.specs.{declared.fault.StoreFault.TheVariants.ConfigLarge, Edits.{configs_with_edit, configs_after_edit}}
use Rattle.conf_state.specs.{Edits.{configs_edited, checked_edit, edited_at, IsPlan}, States.{Entry, config_named, put_config}}
use Rattle.conf_state.specs.Steps.{and_then, found, by_path, checked_tree, with_checked_config}
use Rattle.yaml_config.specs.declared.edit.Edit.{Edit as PathEdit}

-- ---- the limits, in their order

module _ (edit : PathEdit) (path : List (List ℕ)) (old new : Tree) (made : tree_after_edit edit old path ≡ Ok new) where
  pub checked_edit-deep : nat_le (depth new) config_limits.depth ≡ false → checked_edit edit old path ≡ Err TooDeep
  checked_edit-deep deep =
      let more : config_limits.depth < depth new = grind (arith, nat_tests, deep) in
      ap (λ r. and_then (by_path r) checked_tree) made ∙ checked_tree-deep new more

  pub checked_edit-large : depth new ≤ config_limits.depth → config_limits.style < byte_len (style_text new)
      → checked_edit edit old path ≡ Err ConfigLarge
  checked_edit-large deep long = ap (λ r. and_then (by_path r) checked_tree) made ∙ checked_tree-large new deep long

-- ---- one configuration

-- an edit at a pointer is one at its path
pub at-path : (edit : PathEdit) (t : Tree) (pointer : List ℕ) (path : List (List ℕ)) → path_of pointer ≡ Ok path
    → edited_at edit t pointer ≡ checked_edit edit t path
at-path edit t pointer path parsed = ap (λ r. and_then (by_path r) (checked_edit edit t)) parsed

-- a planned edit makes what was planned
pub plan-made : (edit : PathEdit) (old : Tree) (pointer : List ℕ) (plan : EditPlan) (is : IsPlan edit old plan)
    → path_of pointer ≡ Ok plan.path
    → edited_at edit old pointer ≡ Ok is.new
plan-made edit old pointer plan is parsed =
    at-path edit old pointer plan.path parsed ∙ ap (λ r. and_then (by_path r) checked_tree) is.made
    ∙ checked_tree-within is.new is.deep is.long

-- ---- one configuration among others

-- an edit at a path puts the edited configuration there
with-edit-put : (es : List Entry) (name : List ℕ) (edit : PathEdit) (t : Tree) (path : List (List ℕ))
    → configs_with_edit es name edit t path ≡ and_then (checked_edit edit t path) (λ u. Ok (put_config es name u))
with-edit-put es name edit t path = by (tree_after_edit edit t path)
  where
    by : (r : Result Tree PathFault) → and_then (by_path r) (with_checked_config es name)
        ≡ and_then (and_then (by_path r) checked_tree) (λ u. Ok (put_config es name u))
    by (Ok u) = refl
    by (Err fault) = refl

-- so does one at a pointer
pub edit-put : (es : List Entry) (name : List ℕ) (edit : PathEdit) (pointer : List ℕ) (t : Tree) → config_named es name ≡ Some t
    → configs_after_edit es name edit pointer ≡ and_then (edited_at edit t pointer) (λ u. Ok (put_config es name u))
edit-put es name edit pointer t there =
    ap (λ o. and_then (found o) (λ t. and_then (by_path (path_of pointer)) (configs_with_edit es name edit t))) there ∙ by (path_of pointer)
  where
    by : (r : Result (List (List ℕ)) PathFault)
        → and_then (by_path r) (configs_with_edit es name edit t)
        ≡ and_then (and_then (by_path r) (checked_edit edit t)) (λ u. Ok (put_config es name u))
    by (Ok path) = with-edit-put es name edit t path
    by (Err fault) = refl

-- where each name is good
module _ (es : List Entry) (all : AreConfigs es) (name : List ℕ) (edit : PathEdit) (pointer : List ℕ) (t : Tree)
    (there : config_named es name ≡ Some t) where
  edit-there : configs_edited es name edit pointer ≡ and_then (edited_at edit t pointer) (λ u. Ok (put_config es name u))
  edit-there = edited-there es name edit pointer t all there ∙ edit-put es name edit pointer t there

  pub edit-made : (u : Tree) → edited_at edit t pointer ≡ Ok u → configs_edited es name edit pointer ≡ Ok (put_config es name u)
  edit-made u made = edit-there ∙ ap (λ r. and_then r (λ u. Ok (put_config es name u))) made

  pub edit-refused : (fault : StoreFault) → edited_at edit t pointer ≡ Err fault → configs_edited es name edit pointer ≡ Err fault
  edit-refused fault refused = edit-there ∙ ap (λ r. and_then r (λ u. Ok (put_config es name u))) refused

-- what follows from the second of two cases
pub or_so : {A B C : Type 0} → (B → C) → A ⊎ B → A ⊎ C
or_so so (inl a) = inl a
or_so so (inr b) = inr (so b)
