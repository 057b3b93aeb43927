-- The action that `batch` makes ready of the text that it is given.
use Rattle.std.specs.Prelude.{◌≡◌, ℕ, List, Option, Result, Ok, Err}
use Rattle.conf_tools.specs.{Prelude.{Conditions, batch, command_of}, declared.changes.Action.{Action, TheVariants.Perform}}
use Rattle.conf_tools.specs.declared.texts.ToolFault.{ToolFault, TheVariants.{ImportText, NoEdits, Read}}
use Rattle.{conf_session.specs.{Edits.{GivesEdits, RefusesEdits}, declared.edits.EditsFault.EditsFault}, conf_state.specs.Commands.Edit}
use Rattle.conf_words.specs.declared.invocation.Wanted.TheVariants.{Anything}
use Rattle.conf_session.specs.declared.edits.EditsFault.TheVariants as why

-- the action makes these edits, all or none
abbrev pub MakesEdits : List Edit → Action → Type 0
MakesEdits edits (Perform command) = command_of command ≡ batch edits
MakesEdits edits action = ⊥

-- why a text lists no edits, as a fault of the text
abbrev pub fault_of_edits : EditsFault → ToolFault
fault_of_edits (why.Text fault) = Read fault
fault_of_edits why.NoEdits = NoEdits
fault_of_edits (why.Import fault) = ImportText fault

-- these bytes list no edits, and this is the fault of the text
pub record ListsNoEdits (bytes : List ℕ) (fault : ToolFault) : Type 0 where
  pub why : EditsFault
  pub refuses : RefusesEdits bytes why
  pub is : fault ≡ fault_of_edits why

-- The action makes the edits that these bytes list; or they list none, for this reason.
abbrev pub IsBatch : List ℕ → Result Action ToolFault → Type 0
IsBatch bytes (Ok action) = (edits : List Edit) × GivesEdits bytes edits × MakesEdits edits action
IsBatch bytes (Err fault) = ListsNoEdits bytes fault

-- What is wanted of the store: that it has accepted so many commands, if there is a number. Anything may be at a place.
abbrev pub counted_alone : Option ℕ → Conditions
counted_alone count = record { place = Anything; count = count }
