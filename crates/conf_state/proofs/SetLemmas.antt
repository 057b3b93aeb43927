-- Sets that are made in place, and taken back.
use Rattle.std.proofs.Common.{◌≡◌, ℕ, true, List, [], ◌∷◌, ◌++◌, String, Global, Option, Some, None, option_map, is_some, string_bytes}
use Rattle.std.proofs.Common.{MutBor, OnSome, map, Ok, Err, refl, sym, ap, subst, ◌∙◌}
use Rattle.conf_state.proofs.Prelude.{IsUtf8-string_bytes, lookup, set_value, option_copied_mut, chars, Good, tree_of, Changes}
use Rattle.conf_state.proofs.{Prelude.{config_limits, Change}, EditLemmas.{found-good, found-named, named-good}, PlanningLemmas.edit-made}
use Rattle.conf_state.proofs.{DraftLemmas.{named-put-same, put-put-same}, LimitLemmas.{AreConfigs-put, names_differ-put}}
use Rattle.conf_state.{proofs.EntryLemmas.{lookup-named, set_value-named, plain_set_value, put_config-same}, specs.BaseTexts.entries_length}
use Rattle.conf_state.specs.{Commands.{text_of, edit_of}, Configs.is_name, Edits.{configs_edited, edited_at}, Kept.{entries_of, ArePlain}}
use Rattle.conf_state.specs.{Limits.AreConfigs, declared.{sets.Made.Made, fault.StoreFault.StoreFault}, Drafts.ChangesOne, States.Entry}
use Rattle.conf_state.specs.{States.{names_of, names_differ, config_named, put_config}, Trails.{IsHeld, IsMade, Trail}, Steps.and_then}
use Rattle.{conf_state.specs.Steps.all_edited, yaml_config.specs.{Undoing.TakesBack, declared.{undo.Undo.Undo, edit.Edit.Edit as PathEdit}}}
use Rattle.{yaml_config.specs.declared.edit.Edit.TheVariants.Set, yaml_data.specs.declared.tree.Tree.Tree}
use Rattle.conf_state.specs.declared.command.Edit as code_edit
use Rattle.conf_state.specs.declared.command.Edit.TheVariants as edits
use Rattle.yaml_grammar.specs.Trees as grammar

-- ---- what was made, one set after the other

-- one more set
pub trail-push : (start : List Entry) (ms : List Made) (es now : List Entry) (m : Made) → Trail start ms es → IsMade m es now
    → Trail start (ms ++ m ∷ []) now
trail-push start [] es now m trail made = (now, subst (λ s. IsMade m s now) (sym trail) made, refl)
trail-push start (first ∷ ms) es now m trail made = (trail.0, trail.1, trail-push trail.0 ms es now m trail.2 made)

-- the last set, and those before it
pub trail-pop : (start : List Entry) (ms : List Made) (now : List Entry) (m : Made) → Trail start (ms ++ m ∷ []) now
    → (es : List Entry) × Trail start ms es × IsMade m es now
trail-pop start [] now m trail = (start, refl, subst (IsMade m start) trail.2 trail.1)
trail-pop start (first ∷ ms) now m trail =
    let p = trail-pop trail.0 ms now m trail.2 in (p.0, (trail.0, trail.1, p.1), p.2)

-- ---- the configuration under a name, in its place

-- the configurations with a tree under a name
pub record IsPut (es : List (String Global × Tree)) (name : String Global) (new : List (String Global × Tree)) (t : Tree) : Type 0 where
  pub entries : entries_of new ≡ put_config (entries_of es) (text_of name) (tree_of t)
  pub plain : ArePlain new

module _ (es : List (String Global × Tree)) (plain : ArePlain es) (name : String Global) (key : List ℕ) (same : key ≡ string_bytes name)
    (found : Option (MutBor Tree)) (value : option_copied_mut found ≡ lookup (is_name key) es) where
  looked_up : option_copied_mut found ≡ lookup (is_name (string_bytes name)) es
  looked_up = value ∙ ap (λ bs. lookup (is_name bs) es) same

  -- it is there
  pub there-named : (config : MutBor Tree) → found ≡ Some config → config_named (entries_of es) (text_of name) ≡ Some (tree_of config.now)
  there-named config is =
      found-named (string_bytes name) (IsUtf8-string_bytes name) es plain config.now (sym looked_up ∙ ap option_copied_mut is)

  -- or missing
  pub none-named : found ≡ None → config_named (entries_of es) (text_of name) ≡ None
  none-named none =
      sym (lookup-named (string_bytes name) (IsUtf8-string_bytes name) es plain)
      ∙ ap (option_map tree_of) (sym looked_up ∙ ap option_copied_mut none)

  -- it has another tree then
  pub is-put : (config : MutBor Tree) → found ≡ Some config → (new : List (String Global × Tree)) (t : Tree)
      → OnSome found (new ≡ set_value (is_name key) es t) → IsPut es name new t
  is-put config is new t set =
      let here = sym looked_up ∙ ap option_copied_mut is in
      let so = subst (λ r. OnSome r (new ≡ set_value (is_name key) es t)) is set ∙ ap (λ bs. set_value (is_name bs) es t) same in
      record {
        entries = ap entries_of so
            ∙ set_value-named (string_bytes name) (IsUtf8-string_bytes name) es config.now t plain here;
        plain = subst ArePlain (sym so) (plain_set_value (string_bytes name) t es plain);
      }

-- ---- a set, from the configurations before it

module _ (es : List (String Global × Tree)) (bytes : ℕ) (held : IsHeld es bytes) (name : String Global) (old : grammar.Tree)
    (there : config_named (entries_of es) (text_of name) ≡ Some old) (new : List (String Global × Tree)) (t : Tree)
    (put : IsPut es name new t) where
  -- a tree that did not change leaves all of them
  pub put-same : tree_of t ≡ old → entries_of new ≡ entries_of es
  put-same same = put.entries ∙ put_config-same (entries_of es) (text_of name) (tree_of t) (there ∙ ap Some (sym same))

  pub put-made : (edit : PathEdit) (pointer : List ℕ) → edited_at edit old pointer ≡ Ok (tree_of t)
      → configs_edited (entries_of es) (text_of name) edit pointer ≡ Ok (entries_of new)
  put-made edit pointer made =
      edit-made (entries_of es) held.configs (text_of name) edit pointer old there (tree_of t) made ∙ ap Ok (sym put.entries)

  pub put-changes : (change : Change) → Changes change old (tree_of t) → ChangesOne change (entries_of es) (text_of name) (entries_of new)
  put-changes change changes = record { before = old; after = tree_of t; there = there; changes = changes; made = put.entries }

  pub put-held : (length : ℕ) → Good (tree_of t) config_limits → length ≡ entries_length (entries_of new) → IsHeld new length
  put-held length good counted =
      let named = found-good (entries_of es) (text_of name) held.configs (ap is_some there) in
      record {
        plain = put.plain;
        configs = subst (λ cs. AreConfigs cs) (sym put.entries)
            (AreConfigs-put (entries_of es) (text_of name) (tree_of t) named good held.configs);
        distinct = subst (λ cs. names_differ (names_of cs) ≡ true) (sym put.entries)
            (names_differ-put (entries_of es) (text_of name) (tree_of t) held.distinct);
        counted = counted;
      }

  pub put-back : (undo : Undo) → TakesBack undo (tree_of t) old
      → IsMade (record { name = name; undo = undo }) (entries_of es) (entries_of new)
  put-back undo takes = record {
    old = old;
    new = tree_of t;
    there = ap (λ cs. config_named cs (text_of name)) put.entries ∙ named-put-same (entries_of es) (text_of name) (tree_of t);
    undo = takes;
    back = ap (λ cs. put_config cs (text_of name) old) put.entries
        ∙ put-put-same (entries_of es) (text_of name) old (tree_of t)
        ∙ put_config-same (entries_of es) (text_of name) old there;
  }

-- ---- a set that is taken back

-- the tree that is there is the one that the set made
pub made-there : (made : Made) (before now : List Entry) (is : IsMade made before now) (t : grammar.Tree)
    → config_named now (text_of made.name) ≡ Some t → TakesBack made.undo t is.old
made-there made before now is t there =
    let same : is.new ≡ t = cc (sym is.there ∙ there) in subst (λ u. TakesBack made.undo u is.old) same is.undo

-- a set is of a configuration that is there
pub made-missing : (made : Made) (before now : List Entry) → IsMade made before now → config_named now (text_of made.name) ≡ None → ⊥
made-missing made before now is none = cc (sym none ∙ is.there)

-- ---- the edits of a command

-- a set that is refused refuses those after it
pub first-refused : (es : List Entry) (left : List code_edit.Edit) (edit : code_edit.Edit) (rest : List code_edit.Edit)
    (name path : String Global) (value : Tree) (bytes : List ℕ) (fault : StoreFault)
    → left ≡ edit ∷ rest → edit ≡ edits.Set name path value → bytes ≡ string_bytes path
    → configs_edited es (text_of name) (Set value) (chars bytes) ≡ Err fault → all_edited es (map edit_of left) ≡ Err fault
first-refused es left edit rest name path value bytes fault split is same refused =
    ap (λ xs. all_edited es (map edit_of xs)) (split ∙ ap (λ e. e ∷ rest) is)
    ∙ ap (λ r. and_then r (λ next. all_edited next (map edit_of rest)))
    (ap (λ bs. configs_edited es (text_of name) (Set value) (chars bs)) (sym same) ∙ refused)
