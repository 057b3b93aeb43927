-- What `diff` writes: the edits that make one state of a store of another one, as the list that the word `batch` takes.
use Rattle.std.specs.Prelude.{◌≡◌, ◌⊎◌, ℕ, Bool, List, [], ◌∷◌, Option, Some, None, IfSome, Result, Ok, Err, option_map, encode_utf8_all}
use Rattle.std.specs.{Prelude.if◌then◌else◌, Borrow.Bor}
use Rattle.conf_diff.specs.{EditTexts.edits_text, StateEdits.{config_edits, entry_edits}}
use Rattle.conf_state.specs.{Commands.Edit, Names.good_name, declared.fault.StoreFault.TheVariants.OutOfMemory}
use Rattle.conf_tools.specs.Prelude.{Appends, Contents, Findings, HistoryFault, HoldsAt, IsSurvey, Keeps, RefusesReading, RefusesSurvey}
use Rattle.conf_tools.specs.{Prelude.{BadName, NoConfig, Span, StoreFault, Tree, chars, config_named}, Parts.WritesPart}
use Rattle.conf_tools.specs.declared.{diffs.Sameness.{Sameness, TheVariants.{Same, Different}}, reading_fault.ReadingFault.ReadingFault}
use Rattle.conf_tools.specs.declared.reading_fault.ReadingFault.TheVariants.{History, Output, Value}

-- ---- what is compared

-- the number of the first state: as it is asked for, or that of the file's base, before all of its records
abbrev pub IsFirst : Bool → List ℕ → Option ℕ → ℕ → Type 0
IsFirst several bytes (Some from) number = number ≡ from
IsFirst several bytes None number =
    (state : Contents) × (findings : Findings) × IsSurvey several bytes state findings × (number ≡ findings.base)

-- the bytes hold both states
pub record HoldsBoth (several : Bool) (bytes : List ℕ) (span : Span) (first second : Contents) : Type 0 where
  pub number : ℕ
  pub is_first : IsFirst several bytes span.from number
  pub holds_first : HoldsAt several bytes (Some number) first
  pub holds_second : HoldsAt several bytes span.to second

-- why the bytes don't answer with one of them
abbrev pub RefusesBoth : Bool → List ℕ → Span → HistoryFault → Type 0
RefusesBoth several bytes span fault =
    RefusesSurvey bytes fault
    ⊎ ((number : ℕ) × IsFirst several bytes span.from number
    × (RefusesReading several bytes (Some number) fault ⊎ RefusesReading several bytes span.to fault))

-- ---- the edits

-- the name that is asked for, if one is
abbrev pub name_asked : Option (Bor (List ℕ)) → Option (List ℕ)
name_asked name = option_map (λ word. chars word.now) name

-- the edits between two configurations of a name, one of which is there
abbrev pub edits_or_none : List ℕ → Option Tree → Option Tree → Result (List Edit) StoreFault
edits_or_none name None None = Err NoConfig
edits_or_none name first second = Ok (config_edits name first second)

-- the same, if the name may be used
abbrev pub edits_between : List ℕ → Option Tree → Option Tree → Result (List Edit) StoreFault
edits_between name first second = if good_name name then edits_or_none name first second else Err BadName

-- the edits between two states, of the configuration of a name alone if there is one
abbrev pub asked_edits : Option (List ℕ) → Contents → Contents → Result (List Edit) StoreFault
asked_edits None first second = Ok (entry_edits first.configs second.configs)
asked_edits (Some name) first second = edits_between name (config_named first.configs name) (config_named second.configs name)

-- the text of edits in UTF-8; nothing of none
abbrev pub edits_bytes : List Edit → List ℕ
edits_bytes [] = []
edits_bytes (edit ∷ edits) = encode_utf8_all (edits_text (edit ∷ edits))

-- whether what these edits are between is the same
abbrev pub sameness_of : List Edit → Sameness
sameness_of [] = Same
sameness_of (edit ∷ edits) = Different

-- ---- what is written

-- the edits were written
pub record WritesEdits (edits : List Edit) (held written : Option (List ℕ)) (sameness : Sameness) : Type 0 where
  pub is : sameness ≡ sameness_of edits
  pub writes : Appends held written (edits_bytes edits)

-- why not all of them were written: memory ran out, and none was; or the writer failed
abbrev pub RefusesEdits : List Edit → Option (List ℕ) → Option (List ℕ) → ReadingFault → Type 0
RefusesEdits edits held written (Value fault) = (fault ≡ OutOfMemory) × Keeps held written
RefusesEdits edits held written Output = WritesPart (edits_bytes edits) held written
RefusesEdits edits held written fault = ⊥

-- the file, where its bytes are known, holds both states
abbrev pub FileHoldsBoth : Bool → Option (List ℕ) → Span → Contents → Contents → Type 0
FileHoldsBoth several given span first second = IfSome given (λ bytes. HoldsBoth several bytes span first second)

-- the edits between the two states that the file holds were written
pub record WritesDiff (several : Bool) (given : Option (List ℕ)) (name : Option (List ℕ)) (span : Span)
    (held written : Option (List ℕ)) (sameness : Sameness) : Type 0 where
  pub first : Contents
  pub second : Contents
  pub holds : FileHoldsBoth several given span first second
  pub edits : List Edit
  pub are : asked_edits name first second ≡ Ok edits
  pub does : WritesEdits edits held written sameness

-- why there are no edits to be written, or not all were: memory ran out, or the name has none
abbrev pub HasNoEdits : Option (List ℕ) → Contents → Contents → Option (List ℕ) → Option (List ℕ) → ReadingFault → Type 0
HasNoEdits name first second held written (Value fault) =
    ((fault ≡ OutOfMemory) ⊎ (asked_edits name first second ≡ Err fault)) × Keeps held written
HasNoEdits name first second held written Output =
    (edits : List Edit) × (asked_edits name first second ≡ Ok edits) × WritesPart (edits_bytes edits) held written
HasNoEdits name first second held written fault = ⊥

-- why not all edits were written: the file doesn't answer, and nothing was written; or for such a reason
abbrev pub RefusesDiff : Bool → Option (List ℕ) → Option (List ℕ) → Span → Option (List ℕ) → Option (List ℕ) → ReadingFault → Type 0
RefusesDiff several given name span held written (History fault) =
    IfSome given (λ bytes. RefusesBoth several bytes span fault) × Keeps held written
RefusesDiff several given name span held written fault =
    (first : Contents) × (second : Contents) × FileHoldsBoth several given span first second
    × HasNoEdits name first second held written fault
