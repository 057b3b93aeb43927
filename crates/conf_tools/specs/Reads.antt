-- What is written of a store's file by the words that only read it: names, and a value. And whether something is there.
use Rattle.std.specs.Prelude.{◌≡◌, ◌⊎◌, ℕ, Bool, true, false, if◌then◌else◌, List, [], ◌∷◌, ◌++◌, Option, Some, None, IfSome, Result, Ok}
use Rattle.std.specs.{Prelude.{Err, map, option_map, codes, encode_utf8_all}, Borrow.Bor}
use Rattle.conf_tools.specs.Prelude.{Keeps, Appends, chars, style_text, Tree, text, sequence, mapping, tree_of, json_line, json_texts}
use Rattle.conf_tools.specs.Prelude.{Contents, names_of, and_then, by_path, found, StoreFault, BadName, NoConfig, Path, HoldsAt}
use Rattle.conf_tools.specs.{Prelude.{RefusesReading, value_at_path, MissingValue, NamesForm, TreeForm, ValueForm}, Parts.WritesPart}
use Rattle.conf_tools.specs.declared.reading_fault.ReadingFault.{ReadingFault, TheVariants.{History, Value, NotText, NotCollection, Output}}
use Rattle.{conf_tools.specs.declared.reads.Presence.{Presence, TheVariants.{Present, Absent}}, yaml_forms.specs.KeyLines.index_lines}
use Rattle.{yaml_forms.specs.{KeyLines.member_lines, PlainForm.plain_text}, json_pointer.specs.Pointers.path_of}
use Rattle.{json_pointer.specs.declared.fault.PathFault.TheVariants.{NoSuchPlace, NotIndex}, tree_path.specs.Paths.at}
use Rattle.conf_state.specs.{Names.good_name, declared.fault.StoreFault.TheVariants.OutOfMemory}
use Rattle.conf_words.specs.declared.invocation.{MissingValue.TheVariants.Default, RawEnd.TheVariants.{LineFeed, Nothing}}
use Rattle.conf_words.specs.declared.invocation.{TreeForm.TheVariants.{Styled, Json, Plain}, ValueForm.TheVariants.{Whole, Raw, Keys}}
use Rattle.yaml_data.specs.declared.tree.Tree as code
use Rattle.conf_words.specs.declared.invocation.NamesForm.TheVariants as names

-- the names in UTF-8, each with a line feed after it
abbrev pub name_lines : List (List ℕ) → List ℕ
name_lines [] = []
name_lines (name ∷ names) = encode_utf8_all name ++ codes "\n" ++ name_lines names

-- the names in a form, in UTF-8: a line each, or as a JSON array on one line
abbrev pub names_text : NamesForm → List (List ℕ) → List ℕ
names_text names.Lines all = name_lines all
names_text names.Json all = encode_utf8_all (json_texts all ++ codes "\n")

-- ---- a value

-- a value written whole
abbrev pub tree_text : TreeForm → Tree → List ℕ
tree_text Styled value = style_text value
tree_text Json value = json_line value
tree_text Plain value = plain_text value

-- A value written whole; or a text as it is, with its end after it; or the keys of a collection, a line each. No other
-- value is written as it is, and a text has no keys.
abbrev pub shown : ValueForm → Tree → Option (List ℕ)
shown (Whole form) value = Some (tree_text form value)
shown (Raw LineFeed) (text cs) = Some (cs ++ codes "\n")
shown (Raw Nothing) (text cs) = Some cs
shown (Raw end) value = None
shown Keys (text cs) = None
shown Keys (sequence ts) = Some (index_lines 0 ts)
shown Keys (mapping ms) = Some (member_lines ms)

-- whether a fault says that nothing is at the place: no configuration has the name, or the pointer leads nowhere
abbrev pub is_absent : StoreFault → Bool
is_absent NoConfig = true
is_absent (Path (NoSuchPlace step)) = true
is_absent (Path (NotIndex step)) = true
is_absent fault = false

-- the value that was found; where nothing is at the place, the text that the words give for it, if they give one
abbrev pub found_or : MissingValue → Result Tree StoreFault → Result Tree StoreFault
found_or (Default word) (Err fault) = if is_absent fault then Ok (text (chars word.now)) else Err fault
found_or missing found = found

-- whether something is at the place, or why that can't be told
abbrev pub presence_of : Result Tree StoreFault → Result Presence StoreFault
presence_of (Ok value) = Ok Present
presence_of (Err fault) = if is_absent fault then Ok Absent else Err fault

-- ---- what was found under a name

-- the tree of a configuration, where there is one
abbrev pub tree_found : Option (Bor code.Tree) → Option Tree
tree_found config = option_map (λ c. tree_of c.now) config

-- the tree that was found under a name, or BadName or NoConfig
abbrev pub tree_or : Option Tree → List ℕ → Result Tree StoreFault
tree_or tree name = if good_name name then found tree else Err BadName

-- the value at the path that a text means, if it means one, in what was found under a name
abbrev pub value_in : Option Tree → List ℕ → List ℕ → Result Tree StoreFault
value_in tree name pointer = and_then (tree_or tree name)
    (λ t. and_then (by_path (path_of pointer)) (λ tokens. by_path (at t tokens)))

-- ---- what was written

-- The bytes of the file, where they are known, hold the state at this command. Several records may have waited for one
-- sync, or one at most.
abbrev pub FileHolds : Bool → Option (List ℕ) → Option ℕ → Contents → Type 0
FileHolds several given at state = IfSome given (λ bytes. HoldsAt several bytes at state)

-- the names of the configurations that the file holds were written
pub record WritesNames (several : Bool) (given : Option (List ℕ)) (at : Option ℕ) (form : NamesForm)
    (held written : Option (List ℕ)) : Type 0 where
  pub state : Contents
  pub holds : FileHolds several given at state
  pub writes : Appends held written (names_text form (names_of state.configs))

-- the bytes are the value in this form, in UTF-8
abbrev pub ShowsTree : ValueForm → Tree → List ℕ → Type 0
ShowsTree form tree bytes = option_map encode_utf8_all (shown form tree) ≡ Some bytes

-- the same of what was found
pub record ShowsFound (found : Result Tree StoreFault) (form : ValueForm) (bytes : List ℕ) : Type 0 where
  pub tree : Tree
  pub is : found ≡ Ok tree
  pub shows : ShowsTree form tree bytes

-- the fault of a value that a form doesn't show
abbrev pub unshown : ValueForm → ReadingFault
unshown Keys = NotCollection
unshown form = NotText

-- Why a value is not written in a form: memory ran out; or it is no text and was to be written as it is; or it is a
-- text, and its keys were asked for.
abbrev pub CannotShow : ValueForm → Tree → ReadingFault → Type 0
CannotShow form tree (Value fault) = fault ≡ OutOfMemory
CannotShow form tree NotText = (unshown form ≡ NotText) × (shown form tree ≡ None)
CannotShow form tree NotCollection = (unshown form ≡ NotCollection) × (shown form tree ≡ None)
CannotShow form tree fault = ⊥

-- the same of what was found; or nothing was found, for this reason
abbrev pub LacksFound : Result Tree StoreFault → ValueForm → ReadingFault → Type 0
LacksFound found form (Value fault) = (fault ≡ OutOfMemory) ⊎ (found ≡ Err fault)
LacksFound found form NotText =
    (tree : Tree) × (found ≡ Ok tree) × (unshown form ≡ NotText) × (shown form tree ≡ None)
LacksFound found form NotCollection =
    (tree : Tree) × (found ≡ Ok tree) × (unshown form ≡ NotCollection) × (shown form tree ≡ None)
LacksFound found form fault = ⊥

-- the pointers that words give
abbrev pub pointers_of : List (Bor (List ℕ)) → List (List ℕ)
pointers_of words = map (λ word. chars word.now) words

-- what stands for the value at a pointer, in what was found under a name
abbrev pub value_or_in : MissingValue → Option Tree → List ℕ → List ℕ → Result Tree StoreFault
value_or_in missing tree name pointer = found_or missing (value_in tree name pointer)

-- the same in a state
abbrev pub value_or : MissingValue → Contents → List ℕ → List ℕ → Result Tree StoreFault
value_or missing state name pointer = found_or missing (value_at_path state name pointer)

-- what stands for the values at pointers, one after the other in this form
abbrev pub ShowsAll : (List ℕ → Result Tree StoreFault) → ValueForm → List (List ℕ) → List ℕ → Type 0
ShowsAll value_at form [] bytes = bytes ≡ []
ShowsAll value_at form (pointer ∷ pointers) bytes =
    (first : List ℕ) × (others : List ℕ) × ShowsFound (value_at pointer) form first
    × ShowsAll value_at form pointers others × (bytes ≡ first ++ others)

-- why one of them is not shown, where those before it are
abbrev pub LacksOne : (List ℕ → Result Tree StoreFault) → ValueForm → List (List ℕ) → ReadingFault → Type 0
LacksOne value_at form [] fault = ⊥
LacksOne value_at form (pointer ∷ pointers) fault =
    LacksFound (value_at pointer) form fault
    ⊎ ((first : List ℕ) × ShowsFound (value_at pointer) form first × LacksOne value_at form pointers fault)

-- the values at the pointers that the file holds were written
pub record WritesValues (several : Bool) (given : Option (List ℕ)) (at : Option ℕ) (name : List ℕ)
    (pointers : List (List ℕ)) (missing : MissingValue) (form : ValueForm) (held written : Option (List ℕ))
    : Type 0 where
  pub state : Contents
  pub holds : FileHolds several given at state
  pub bytes : List ℕ
  pub shows : ShowsAll (value_or missing state name) form pointers bytes
  pub writes : Appends held written bytes

-- the file doesn't answer, and nothing was written
abbrev pub RefusesFile : Bool → Option (List ℕ) → Option ℕ → Option (List ℕ) → Option (List ℕ) → ReadingFault → Type 0
RefusesFile several given at held written (History fault) =
    IfSome given (λ bytes. RefusesReading several bytes at fault) × Keeps held written
RefusesFile several given at held written fault = ⊥

-- why not all names were written: the file doesn't answer, or the writer failed
abbrev pub RefusesNames : Bool → Option (List ℕ) → Option ℕ → NamesForm → Option (List ℕ) → Option (List ℕ)
    → ReadingFault → Type 0
RefusesNames several given at form held written Output =
    (state : Contents) × FileHolds several given at state × WritesPart (names_text form (names_of state.configs)) held written
RefusesNames several given at form held written fault = RefusesFile several given at held written fault

-- Why not all of the values were written: the file doesn't answer, its state has no such values, or the writer failed.
abbrev pub RefusesValues : Bool → Option (List ℕ) → Option ℕ → List ℕ → List (List ℕ) → MissingValue → ValueForm
    → Option (List ℕ) → Option (List ℕ) → ReadingFault → Type 0
RefusesValues several given at name pointers missing form held written (History fault) =
    RefusesFile several given at held written (History fault)
RefusesValues several given at name pointers missing form held written Output =
    (state : Contents) × FileHolds several given at state
    × ((bytes : List ℕ) × ShowsAll (value_or missing state name) form pointers bytes × WritesPart bytes held written)
RefusesValues several given at name pointers missing form held written fault =
    (state : Contents) × FileHolds several given at state
    × LacksOne (value_or missing state name) form pointers fault × Keeps held written

-- ---- whether something is there

-- the file holds something at the pointer, or nothing
pub record FindsPresence (several : Bool) (given : Option (List ℕ)) (at : Option ℕ) (name pointer : List ℕ) (presence : Presence)
    : Type 0 where
  pub state : Contents
  pub holds : FileHolds several given at state
  pub is : presence_of (value_at_path state name pointer) ≡ Ok presence

-- why that can't be told: memory ran out, or for this reason
abbrev pub HidesPresence : Result Presence StoreFault → StoreFault → Type 0
HidesPresence presence fault = (fault ≡ OutOfMemory) ⊎ (presence ≡ Err fault)

-- the file doesn't answer, or the name or the pointer can't be one
abbrev pub RefusesPresence : Bool → Option (List ℕ) → Option ℕ → List ℕ → List ℕ → ReadingFault → Type 0
RefusesPresence several given at name pointer (History fault) =
    IfSome given (λ bytes. RefusesReading several bytes at fault)
RefusesPresence several given at name pointer (Value fault) =
    (state : Contents) × FileHolds several given at state
    × HidesPresence (presence_of (value_at_path state name pointer)) fault
RefusesPresence several given at name pointer fault = ⊥
