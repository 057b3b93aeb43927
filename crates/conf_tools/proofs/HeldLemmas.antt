-- What is written of one configuration that a file holds.
use Rattle.std.{proofs.Common.{◌≡◌, ap, subst, refl, inl, inr, ℕ, List, [], ◌∷◌}, specs.Prelude.{Bool, Option, Some, None, Result}}
use Rattle.std.specs.{Prelude.{option_copied, option_map}, Borrow.Bor}
use Rattle.conf_tools.proofs.Prelude.{Appends, Keeps, tree_of, Tree, Contents, StoreFault, config_named, MissingValue, ValueForm}
use Rattle.conf_tools.specs.{Parts.WritesPart, Reads.{LacksOne, RefusesValues, ShowsAll, WritesValues, tree_found, value_or_in}}
use Rattle.{conf_tools.specs.declared.reading_fault.ReadingFault.ReadingFault, conf_history.specs.Histories.ReadsState}
use Rattle.conf_history.specs.declared.fault.HistoryFault.{HistoryFault}
use Rattle.yaml_data.specs.declared.tree.Tree as code
use Rattle.conf_tools.specs.declared.reading_fault.ReadingFault.TheVariants as reading

-- what was found, by a reference to it
pub tree_lent : (lent : Option (Bor code.Tree)) (config : Option code.Tree) → option_copied lent ≡ config
    → tree_found lent ≡ option_map tree_of config
tree_lent None config is = ap (option_map tree_of) is
tree_lent (Some tree) config is = ap (option_map tree_of) is

-- what was not written to is as it was
pub keeps_same : (held : Option (List ℕ)) → Keeps held held
keeps_same None = tt
keeps_same (Some bytes) = refl

-- ---- values that can't be shown

-- the file is not why
never_lacks : (value_at : List ℕ → Result Tree StoreFault) (form : ValueForm) (pointers : List (List ℕ)) (fault : HistoryFault)
    → LacksOne value_at form pointers (reading.History fault) → ⊥
never_lacks value_at form [] fault lacks = lacks
never_lacks value_at form (pointer ∷ pointers) fault (inl lacks) = lacks
never_lacks value_at form (pointer ∷ pointers) fault (inr lacks) = never_lacks value_at form pointers fault lacks.2

-- nor is the writer
never_cut : (value_at : List ℕ → Result Tree StoreFault) (form : ValueForm) (pointers : List (List ℕ))
    → LacksOne value_at form pointers reading.Output → ⊥
never_cut value_at form [] lacks = lacks
never_cut value_at form (pointer ∷ pointers) (inl lacks) = lacks
never_cut value_at form (pointer ∷ pointers) (inr lacks) = never_cut value_at form pointers lacks.2

module _ (several : Bool) (given left : Option (List ℕ)) (at : Option ℕ) where
  -- the tree of the configuration under a name of a state that the file holds was found, if there is one
  abbrev pub TreeFound : List ℕ → Option Tree → Type 0
  TreeFound name tree = (s : Contents) × ReadsState several given left at s × (tree ≡ config_named s.configs name)

  module _ (name : List ℕ) (pointers : List (List ℕ)) (tree : Option Tree) (found : TreeFound name tree) where
    -- what stands for values in it is what stands for them in the state: all was written
    pub values_written : (missing : MissingValue) (form : ValueForm) (bytes : List ℕ) (held written : Option (List ℕ))
        → ShowsAll (value_or_in missing tree name) form pointers bytes → Appends held written bytes
        → WritesValues several given at name pointers missing form held written
    values_written missing form bytes held written shows writes = record {
      state = found.0;
      holds = found.1.holds;
      bytes = bytes;
      shows = subst (λ t. ShowsAll (value_or_in missing t name) form pointers bytes) found.2 shows;
      writes = writes;
    }

    -- only the first of it was written
    pub values_cut : (missing : MissingValue) (form : ValueForm) (bytes : List ℕ) (held written : Option (List ℕ))
        → ShowsAll (value_or_in missing tree name) form pointers bytes → WritesPart bytes held written
        → RefusesValues several given at name pointers missing form held written reading.Output
    values_cut missing form bytes held written shows part = (
      found.0,
      found.1.holds,
      (bytes, subst (λ t. ShowsAll (value_or_in missing t name) form pointers bytes) found.2 shows, part),
    )

    -- the same of a value that can't be shown
    lacks_one : (missing : MissingValue) (form : ValueForm) (fault : ReadingFault)
        → LacksOne (value_or_in missing tree name) form pointers fault
        → LacksOne (value_or_in missing (config_named found.0.configs name) name) form pointers fault
    lacks_one missing form fault lacks =
        subst (λ t. LacksOne (value_or_in missing t name) form pointers fault) found.2 lacks

    -- it can't be shown
    pub values_refused : (missing : MissingValue) (form : ValueForm) (held written : Option (List ℕ)) → Keeps held written
        → (fault : ReadingFault) → LacksOne (value_or_in missing tree name) form pointers fault
        → RefusesValues several given at name pointers missing form held written fault
    values_refused missing form held written keeps (reading.Value fault) lacks =
        (found.0, found.1.holds, lacks_one missing form (reading.Value fault) lacks, keeps)
    values_refused missing form held written keeps reading.NotText lacks =
        (found.0, found.1.holds, lacks_one missing form reading.NotText lacks, keeps)
    values_refused missing form held written keeps reading.NotCollection lacks =
        (found.0, found.1.holds, lacks_one missing form reading.NotCollection lacks, keeps)
    values_refused missing form held written keeps (reading.Folder fault) lacks =
        (found.0, found.1.holds, lacks_one missing form (reading.Folder fault) lacks, keeps)
    values_refused missing form held written keeps (reading.History fault) lacks =
        absurd (never_lacks (value_or_in missing tree name) form pointers fault lacks)
    values_refused missing form held written keeps (reading.Salvage fault) lacks =
        (found.0, found.1.holds, lacks_one missing form (reading.Salvage fault) lacks, keeps)
    values_refused missing form held written keeps reading.Output lacks =
        absurd (never_cut (value_or_in missing tree name) form pointers lacks)
