-- What is told of a text that came to nothing.
use Rattle.std.specs.Prelude.{◌≡◌, ◌⊎◌, ℕ, List, ◌++◌, Option, Some, None, codes, decimal, encode_utf8_all}
use Rattle.conf_tools.specs.{Prelude.{Reporting, chars}, FaultLines.text_fault_name, declared.texts.ToolFault.ToolFault}
use Rattle.conf_tools.specs.declared.{texts.ToolFault.TheVariants.{Comments, Output, Read}, reporter.Origin.{Origin, TheVariants.Input}}
use Rattle.{conf_tools.specs.declared.reporter.Origin.TheVariants.Named, conf_words.specs.Escapes.escaped}
use Rattle.{conf_words.specs.declared.invocation.Reporting.TheVariants.{Brief, Explained}, yaml_docs.specs.declared.place.Place.Place}
use Rattle.yaml_events.specs.declared.read_fault.ReadFault.{ReadFault, TheVariants.Syntax}

-- the name of a fault, what more is known of it, and the end of the line
abbrev pub fault_and_more : List ℕ → List ℕ → List ℕ
fault_and_more name more = codes ": " ++ name ++ more ++ codes "\n"

-- the line and the column of a place
abbrev pub place_text : ℕ → ℕ → List ℕ
place_text line column = codes ":" ++ decimal line ++ codes ":" ++ decimal column

-- the line for a fault of a text: what the text is called, its place if it has one, its name, and what more is known
abbrev pub refusal_line : List ℕ → Option Place → List ℕ → List ℕ → List ℕ
refusal_line text None name more = text ++ fault_and_more name more
refusal_line text (Some place) name more = text ++ place_text place.line place.column ++ fault_and_more name more

-- the place that a fault has by itself: that of a syntax fault
abbrev pub HasPlace : ReadFault → Option Place → Type 0
HasPlace (Syntax line column why) (Some place) = (place.line ≡ line) × (place.column ≡ column)
HasPlace (Syntax line column why) None = ⊥
HasPlace fault place = Unit {0}

-- the same, or that of the first comment
abbrev pub IsPlaceOf : ToolFault → Option Place → Type 0
IsPlaceOf (Read fault) place = HasPlace fault place
IsPlaceOf (Comments first) place = place ≡ Some first
IsPlaceOf fault place = Unit {0}

-- The fault of a text was told in a line, with its place; but of standard input where the words name no file, by its name
-- alone. More may follow, which explains it.
pub record TellsFault {E : Type 0} (hears : E → List ℕ → E → Type 0) (old : E) (fault : ToolFault) : Type 0 where
  pub text : List ℕ
  pub place : Option Place
  pub at : IsPlaceOf fault place ⊎ (text ≡ codes "confstore")
  pub more : List ℕ
  pub told : E
  pub tells : hears old (refusal_line text place (text_fault_name fault) more) told

-- ---- the same, with the name of the file

-- the name of a file as it is shown
abbrev pub shown_name : List ℕ → List ℕ
shown_name path = encode_utf8_all (escaped (chars path))

-- a line calls a file so: by its name as it is shown, or by a word where there is no memory for that
abbrev pub CallsFile : List ℕ → List ℕ → Type 0
CallsFile path name = (name ≡ shown_name path) ⊎ (name ≡ codes "FILE")

-- the name of the file that a text is of, if the words name one
abbrev pub path_of : Origin → Option (List ℕ)
path_of Input = None
path_of (Named file) = Some file.now

-- the file that a fault is told of: a failure of the output is none of the file
abbrev pub blamed : Option (List ℕ) → ToolFault → Option (List ℕ)
blamed origin Output = None
blamed origin fault = origin

-- So much is told of a text that is refused: as the words ask for. Where they ask for one line, the world may for more.
abbrev pub IsReporting : Reporting → Reporting → Type 0
IsReporting Brief reporting = Unit {0}
IsReporting Explained reporting = reporting ≡ Explained

module _ {E : Type 0} (hears : E → List ℕ → E → Type 0) where
  -- the fault of a text that has no name was told, and nothing else
  abbrev pub TellsUnnamed : ToolFault → E → E → Type 0
  TellsUnnamed fault old new =
      (more : List ℕ) × hears old (refusal_line (codes "confstore") None (text_fault_name fault) more) new

  -- The fault of a text that is called so was told, with its place. What explains it may follow, but where reports are
  -- brief, nothing else was told.
  pub record TellsCalled (reporting : Reporting) (name : List ℕ) (fault : ToolFault) (old new : E) : Type 0 where
    pub place : Option Place
    pub at : IsPlaceOf fault place
    pub more : List ℕ
    pub told : E
    pub tells : hears old (refusal_line name place (text_fault_name fault) more) told
    pub brief : reporting ≡ Brief → new ≡ told

  -- the fault of the text of a file was told, or of one that has no name
  abbrev pub TellsFaultOf : Reporting → Option (List ℕ) → ToolFault → E → E → Type 0
  TellsFaultOf reporting None fault old new = TellsUnnamed fault old new
  TellsFaultOf reporting (Some path) fault old new =
      (name : List ℕ) × CallsFile path name × TellsCalled reporting name fault old new
