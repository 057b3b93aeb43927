-- What holds of a command that `step` accepts: its name and its path are good, and its parts are small.
use Rattle.std.proofs.Common.{◌≡◌, ℕ, ◌≤◌, Bool, true, false, nat_lt, if◌then◌else◌, List, [], ◌∷◌, Option, Some, None, Result, Ok, Err}
use Rattle.std.proofs.Common.{is_ok, refl, ap, subst, ◌∙◌, arith}
use Rattle.conf_record.proofs.Prelude.{nat_tests, byte_len, same_text, Tree, depth, style_text, set, delete, path_of, PathFault, good_name}
use Rattle.conf_record.proofs.Prelude.{Edit, import_as, set_at, delete_at, Command, single, batch, noted, name_of, Entry, Contents}
use Rattle.conf_record.proofs.{Prelude.{config_named, put_config, cut_config, config_limits, AreConfigs, IsState}, SizeLemmas.size}
use Rattle.conf_record.proofs.{PointerLemmas.pointer_bytes, PathLemmas.{tokens_size, set_holds, delete_holds}}
use Rattle.conf_record.specs.SmallCommands.{IsSmallTree, IsShortPath, IsSmallEdit, AreSmallEdits, IsSmallCommand}
use Rattle.conf_state.specs.Steps.{found, by_path, checked_tree, with_checked_config, configs_after_delete, configs_after, edited}
use Rattle.conf_state.specs.{Steps.{all_edited, performed, next_state, step}, declared.fault.StoreFault.TheVariants.{BadName, Path}}
use Rattle.conf_state.{specs.declared.{fault.StoreFault.TheVariants.{TooDeep, ConfigLarge}, room.Room.Room}, proofs.RunLaws.and_then-Ok}
use Rattle.yaml_config.proofs.DepthLemmas.{set-deepens}

-- ---- the answers of the parts

no_less : (a b : ℕ) → nat_lt a b ≡ false → b ≤ a
no_less a b e = grind (arith, nat_tests)

-- a tree that is checked is small
checked : (t u : Tree) → checked_tree t ≡ Ok u → IsSmallTree t × (t ≡ u)
checked t u is = by (nat_lt config_limits.depth (depth t)) refl (nat_lt config_limits.style (byte_len (style_text t))) refl is
  where
    by : (d : Bool) → nat_lt config_limits.depth (depth t) ≡ d → (l : Bool) → nat_lt config_limits.style (byte_len (style_text t)) ≡ l
        → (if d then Err TooDeep else if l then Err ConfigLarge else Ok t) ≡ Ok u → IsSmallTree t × (t ≡ u)
    by true deep l long same = cc
    by false deep true long same = cc
    by false deep false long same = (record { deep = no_less _ _ deep; bytes = no_less _ _ long }, cc)

found-Ok : (o : Option Tree) (t : Tree) → found o ≡ Ok t → o ≡ Some t
found-Ok None t is = cc
found-Ok (Some u) t is = cc

by_path-Ok : {A : Type 0} (r : Result A PathFault) (x : A) → by_path r ≡ Ok x → r ≡ Ok x
by_path-Ok (Ok y) x is = cc
by_path-Ok (Err fault) x is = let refused : Err (Path fault) ≡ Ok x = is in cc

-- ---- configurations within the limit of bytes

abbrev AreShort : List Entry → Type 0
AreShort [] = Unit {0}
AreShort (e ∷ es) = (size e.1 ≤ config_limits.style) × AreShort es

configs_short : (es : List Entry) → AreConfigs es → AreShort es
configs_short [] all = tt
configs_short (e ∷ es) all = (all.1.long, configs_short es all.2)

named_small : (es : List Entry) (name : List ℕ) (t : Tree) → AreShort es → config_named es name ≡ Some t → size t ≤ config_limits.style
named_small [] name t all is = cc
named_small (e ∷ es) name t all is = by (same_text name e.0) is (named_small es name t all.1)
  where
    by : (b : Bool) → (if b then Some e.1 else config_named es name) ≡ Some t
        → (config_named es name ≡ Some t → size t ≤ config_limits.style) → size t ≤ config_limits.style
    by true here rest =
        let same : e.1 ≡ t = cc in
        let bytes = ap size same in
        let long = all.0 in
        omega arith
    by false there rest = rest there

short_put : (es : List Entry) (name : List ℕ) (t : Tree) → size t ≤ config_limits.style → AreShort es → AreShort (put_config es name t)
short_put [] name t small all = (small, tt)
short_put (e ∷ es) name t small all = by (same_text name e.0) (put_config es name t) (short_put es name t small all.1)
  where
    by : (b : Bool) (rest : List Entry) → AreShort rest → AreShort (if b then (e.0, t) ∷ es else e ∷ rest)
    by true rest more = (small, all.1)
    by false rest more = (all.0, more)

short_cut : (es : List Entry) (name : List ℕ) → AreShort es → AreShort (cut_config es name)
short_cut [] name all = tt
short_cut (e ∷ es) name all = by (same_text name e.0) (cut_config es name) (short_cut es name all.1)
  where
    by : (b : Bool) (rest : List Entry) → AreShort rest → AreShort (if b then es else e ∷ rest)
    by true rest more = all.1
    by false rest more = (all.0, more)

good_path : (path : List ℕ) (tokens : List (List ℕ)) → path_of path ≡ Ok tokens
    → tokens_size tokens ≤ config_limits.style → IsShortPath path
good_path path tokens is few =
    let bytes = pointer_bytes path tokens is in
    record { parsed = ap is_ok is; bytes = omega arith }

-- ---- one edit

module _ (configs after : List Entry) (all : AreShort configs) (name : List ℕ) where
  placed : (t : Tree) → with_checked_config configs name t ≡ Ok after → IsSmallTree t × AreShort after
  placed t is =
      let done = and_then-Ok (checked_tree t) (λ u. Ok (put_config configs name u)) after is in
      let small = checked t done.0 done.1 in
      let put : put_config configs name done.0 ≡ after = let made = done.2 in cc in (
        small.0,
        subst AreShort (ap (put_config configs name) small.1 ∙ put) (short_put configs name t small.0.bytes all),
      )

  deleted : (t : Tree) (tokens : List (List ℕ)) → size t ≤ config_limits.style → configs_after_delete configs name t tokens ≡ Ok after
      → (tokens_size tokens ≤ config_limits.style) × AreShort after
  deleted t [] small is =
      let cut : cut_config configs name ≡ after = cc in
      (omega arith, subst AreShort cut (short_cut configs name all))
  deleted t (token ∷ tokens) small is =
      let done = and_then-Ok (by_path (delete t (token ∷ tokens))) (with_checked_config configs name) after is in
      let bytes = delete_holds t done.0 (token ∷ tokens) (by_path-Ok (delete t (token ∷ tokens)) done.0 done.1) in
      (omega (arith, bytes, small), (placed done.0 done.2).1)

module _ (configs after : List Entry) (all : AreShort configs) where
  after_accepted : (edit : Edit) → good_name (name_of edit) ≡ true → configs_after configs edit ≡ Ok after
      → IsSmallEdit edit × AreShort after
  after_accepted (import_as name tree) named is = let new = placed configs after all name tree is in ((named, new.0), new.1)
  after_accepted (set_at name path value) named is =
      let config = and_then-Ok (found (config_named configs name)) _ after is in
      let parsed = and_then-Ok (by_path (path_of path)) _ after config.2 in
      let done = and_then-Ok (by_path (set config.0 parsed.0 value)) (with_checked_config configs name) after parsed.2 in
      let new = placed configs after all name done.0 done.2 in
      let whole = by_path-Ok (set config.0 parsed.0 value) done.0 done.1 in
      let bytes = set_holds config.0 value done.0 parsed.0 whole in
      let deep = (set-deepens config.0 value done.0 parsed.0 whole).least in
      let value_small : IsSmallTree value =
      record { deep = omega (arith, deep, new.0.deep); bytes = omega (arith, bytes, new.0.bytes) } in
      let short = good_path path parsed.0 (by_path-Ok (path_of path) parsed.0 parsed.1) (omega (arith, bytes, new.0.bytes)) in
      ((named, short, value_small), new.1)
  after_accepted (delete_at name path) named is =
      let config = and_then-Ok (found (config_named configs name)) _ after is in
      let parsed = and_then-Ok (by_path (path_of path)) (configs_after_delete configs name config.0) after config.2 in
      let small = named_small configs name config.0 all (found-Ok (config_named configs name) config.0 config.1) in
      let new = deleted configs after all name config.0 parsed.0 small parsed.2 in
      ((named, good_path path parsed.0 (by_path-Ok (path_of path) parsed.0 parsed.1) new.0), new.1)

  edit_accepted : (edit : Edit) → edited configs edit ≡ Ok after → IsSmallEdit edit × AreShort after
  edit_accepted edit is = by (good_name (name_of edit)) refl is
    where
      by : (b : Bool) → good_name (name_of edit) ≡ b
          → (if b then configs_after configs edit else Err BadName) ≡ Ok after → IsSmallEdit edit × AreShort after
      by true named done = after_accepted edit named done
      by false named done = let refused : Err BadName ≡ Ok after = done in absurd (cc)

-- ---- commands

all_accepted : (edits : List Edit) (configs after : List Entry) → AreShort configs
    → all_edited configs edits ≡ Ok after → AreSmallEdits edits
all_accepted [] configs after all is = tt
all_accepted (edit ∷ edits) configs after all is =
    let done = and_then-Ok (edited configs edit) (λ next. all_edited next edits) after is in
    let one = edit_accepted configs done.0 all edit done.1 in
    (one.0, all_accepted edits done.0 after one.1 done.2)

performed_accepted : (command : Command) (configs after : List Entry) → AreShort configs
    → performed configs command ≡ Ok after → IsSmallCommand command
performed_accepted (single edit) configs after all is = (edit_accepted configs after all edit is).0
performed_accepted (batch []) configs after all is = tt
performed_accepted (batch (edit ∷ edits)) configs after all is = all_accepted (edit ∷ edits) configs after all is
performed_accepted (noted command about) configs after all is = performed_accepted command configs after all is

-- a command that some state accepts keeps that
pub accepted : (s new : Contents) (command : Command) (room : Room) → IsState s → step s command room ≡ Ok new → IsSmallCommand command
accepted s new command room kept is =
    let after = and_then-Ok (performed s.configs command) (next_state s room) new is in
    performed_accepted command s.configs after.0 (configs_short s.configs kept.configs) after.1
