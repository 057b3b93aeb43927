-- Where edits make configurations without limits, those of conf_state make the same ones, or a limit is in the way.
use Rattle.std.proofs.Common.{◌≡◌, ℕ, nat_lt, Bool, true, false, List, [], ◌∷◌, Option, Some, None, Result, Ok, Err}
use Rattle.std.proofs.Common.{if◌then◌else◌, refl, sym, subst}
use Rattle.conf_diff.proofs.Prelude.{Tree, Entry, Edit, import_as, set_at, delete_at, name_of, good_name, config_named, put_config}
use Rattle.conf_diff.proofs.Prelude.{and_then, all_edited, by_path, configs_after, configs_after_delete, edited, found, with_checked_config}
use Rattle.conf_diff.proofs.Prelude.{PathFault, StoreFault, BadName, TooDeep, ConfigLarge, path_of, set, delete, depth, byte_len}
use Rattle.conf_diff.proofs.Prelude.{config_limits, style_text}
use Rattle.conf_diff.specs.Freely.{freely_deleted, freely_after, freely_edited, all_freely_edited, IsUnlessLimited}

-- a tree that is put under a name
put-limited : (es : List Entry) (name : List ℕ) (t : Tree) → IsUnlessLimited (with_checked_config es name t) (put_config es name t)
put-limited es name t = by (nat_lt config_limits.depth (depth t)) (nat_lt config_limits.style (byte_len (style_text t)))
  where
    by : (deep long : Bool) → IsUnlessLimited (and_then (if deep then Err TooDeep else if long then Err ConfigLarge else Ok t)
        (λ u. Ok (put_config es name u))) (put_config es name t)
    by true long = tt
    by false true = tt
    by false false = refl

same-limited : (es fs : List Entry) (name : List ℕ) (t : Tree)
    → ◌≡◌ {A = Result (List Entry) StoreFault} (Ok (put_config es name t)) (Ok fs) → IsUnlessLimited (with_checked_config es name t) fs
same-limited es fs name t is =
    let same : put_config es name t ≡ fs = cc in
    subst (IsUnlessLimited (with_checked_config es name t)) same (put-limited es name t)

module _ (es fs : List Entry) (name : List ℕ) where
  -- an edited tree
  tree-limited : (r : Result Tree PathFault) → and_then (by_path r) (λ u. Ok (put_config es name u)) ≡ Ok fs
      → IsUnlessLimited (and_then (by_path r) (with_checked_config es name)) fs
  tree-limited (Ok u) is = same-limited es fs name u is
  tree-limited (Err fault) is = cc

  -- a set
  set_tokens : (t v : Tree) (r : Result (List (List ℕ)) PathFault)
      → and_then (by_path r) (λ tokens. and_then (by_path (set t tokens v)) (λ u. Ok (put_config es name u))) ≡ Ok fs
      → IsUnlessLimited (and_then (by_path r) (λ tokens. and_then (by_path (set t tokens v)) (with_checked_config es name))) fs
  set_tokens t v (Ok tokens) is = tree-limited (set t tokens v) is
  set_tokens t v (Err fault) is = cc

  set-limited : (path : List ℕ) (v : Tree) (o : Option Tree)
      → and_then (found o) (λ t. and_then (by_path (path_of path))
      (λ tokens. and_then (by_path (set t tokens v)) (λ u. Ok (put_config es name u)))) ≡ Ok fs
      → IsUnlessLimited (and_then (found o) (λ t. and_then (by_path (path_of path))
      (λ tokens. and_then (by_path (set t tokens v)) (with_checked_config es name)))) fs
  set-limited path v (Some t) is = set_tokens t v (path_of path) is
  set-limited path v None is = cc

  -- a delete
  deleted-limited : (t : Tree) (tokens : List (List ℕ)) → freely_deleted es name t tokens ≡ Ok fs
      → IsUnlessLimited (configs_after_delete es name t tokens) fs
  deleted-limited t [] is = cc
  deleted-limited t (token ∷ tokens) is = tree-limited (delete t (token ∷ tokens)) is

  delete_tokens : (t : Tree) (r : Result (List (List ℕ)) PathFault) → and_then (by_path r) (freely_deleted es name t) ≡ Ok fs
      → IsUnlessLimited (and_then (by_path r) (configs_after_delete es name t)) fs
  delete_tokens t (Ok tokens) is = deleted-limited t tokens is
  delete_tokens t (Err fault) is = cc

  delete-limited : (path : List ℕ) (o : Option Tree)
      → and_then (found o) (λ t. and_then (by_path (path_of path)) (freely_deleted es name t)) ≡ Ok fs
      → IsUnlessLimited (and_then (found o) (λ t. and_then (by_path (path_of path)) (configs_after_delete es name t))) fs
  delete-limited path (Some t) is = delete_tokens t (path_of path) is
  delete-limited path None is = cc

after-limited : (es fs : List Entry) (edit : Edit) → freely_after es edit ≡ Ok fs → IsUnlessLimited (configs_after es edit) fs
after-limited es fs (import_as name tree) is = same-limited es fs name tree is
after-limited es fs (set_at name path value) is = set-limited es fs name path value (config_named es name) is
after-limited es fs (delete_at name path) is = delete-limited es fs name path (config_named es name) is

edit-limited : (es fs : List Entry) (edit : Edit) → freely_edited es edit ≡ Ok fs → IsUnlessLimited (edited es edit) fs
edit-limited es fs edit = by (good_name (name_of edit))
  where
    by : (named : Bool) → (if named then freely_after es edit else Err BadName) ≡ Ok fs
        → IsUnlessLimited (if named then configs_after es edit else Err BadName) fs
    by true is = after-limited es fs edit is
    by false is = cc

pub all-limited : (edits : List Edit) (es fs : List Entry) → all_freely_edited es edits ≡ Ok fs → IsUnlessLimited (all_edited es edits) fs
all-limited [] es fs is = cc
all-limited (edit ∷ edits) es fs is =
    by (freely_edited es edit) (edited es edit) (λ next. edit-limited es next edit) is (λ next. all-limited edits next fs)
  where
    go : (next : List Entry) (r : Result (List Entry) StoreFault) → IsUnlessLimited r next
        → IsUnlessLimited (all_edited next edits) fs → IsUnlessLimited (and_then r (λ xs. all_edited xs edits)) fs
    go next (Ok configs) same rest = subst (λ xs. IsUnlessLimited (all_edited xs edits) fs) (sym same) rest
    go next (Err TooDeep) same rest = tt
    go next (Err ConfigLarge) same rest = tt
    go next (Err fault) same rest = absurd same

    by : (free r : Result (List Entry) StoreFault) → ((next : List Entry) → free ≡ Ok next → IsUnlessLimited r next)
        → and_then free (λ xs. all_freely_edited xs edits) ≡ Ok fs
        → ((next : List Entry) → all_freely_edited next edits ≡ Ok fs → IsUnlessLimited (all_edited next edits) fs)
        → IsUnlessLimited (and_then r (λ xs. all_edited xs edits)) fs
    by (Ok next) r here e rest = go next r (here next refl) (rest next e)
    by (Err fault) r here e rest = cc
