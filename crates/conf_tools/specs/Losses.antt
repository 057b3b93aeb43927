-- What is told of the comments of a text that are left out.
use Rattle.std.specs.Prelude.{◌≡◌, ◌≢◌, ◌⊎◌, codes, ℕ, List, Result, Ok, Err}
use Rattle.conf_tools.specs.{Prelude.{Reporting, Style}, Refused.TellsFault, Styles.{TellsLeftOutOf, dash_line}, Tools.Taken}
use Rattle.conf_tools.specs.declared.{changes.Action.Action, change_words.Meaning.Meaning, outcome.{Outcome.Outcome, Ending.Ending}}
use Rattle.conf_tools.specs.declared.{outcome.Ending.TheVariants.{Of, Told, ToldFault}, reporter.Origin.{Origin, TheVariants.Input}}
use Rattle.conf_tools.specs.declared.{reporter.Origin.TheVariants.Named, texts.ToolFault.ToolFault}
use Rattle.conf_words.specs.declared.invocation.{Reporting.TheVariants.{Brief, Explained}, Style.TheVariants.{Bare, WithComments}}
use Rattle.conf_tools.specs.declared.change_words.Meaning.TheVariants as means
use Rattle.conf_tools.specs.declared.outcome.Outcome.TheVariants as ends

module _ {E : Type 0} (hears : E → List ℕ → E → Type 0) where
  -- ---- `format`

  -- of a text that is named, and written without its comments, it is told how many these are; of others nothing
  abbrev pub TellsLoss : Origin → Style → List ℕ → E → E → Type 0
  TellsLoss Input style bytes old new = new ≡ old
  TellsLoss (Named file) Bare bytes old new = TellsLeftOutOf hears bytes old new
  TellsLoss (Named file) WithComments bytes old new = new ≡ old

  -- the same of a text that was read, or its fault was told
  abbrev pub TellsLossOr : Origin → Style → List ℕ → Ending → E → E → Type 0
  TellsLossOr origin style bytes (Told status) old new = TellsLoss origin style bytes old new
  TellsLossOr origin style bytes (ToldFault fault) old new = TellsFault hears old fault
  TellsLossOr origin style bytes (Of outcome) old new = ⊥

  -- where none was read, its fault was told
  abbrev pub TellsWritten : Origin → Style → Taken → Ending → E → E → Type 0
  TellsWritten origin style (Ok bytes) ending old new = TellsLossOr origin style bytes.items ending old new
  TellsWritten origin style (Err fault) (ToldFault other) old new = TellsFault hears old other
  TellsWritten origin style (Err fault) ending old new = ⊥

  -- ---- `import` and `set`

  -- how many comments the text has is told where reports explain
  abbrev pub TellsLossIfAsked : Reporting → List ℕ → E → E → Type 0
  TellsLossIfAsked Brief bytes old new = new ≡ old
  TellsLossIfAsked Explained bytes old new = TellsLeftOutOf hears bytes old new

  -- the same of an import that ended so, where it was done
  abbrev pub ImportTells : Reporting → Outcome → List ℕ → E → E → Type 0
  ImportTells reporting ends.Done bytes old new = TellsLossIfAsked reporting bytes old new
  ImportTells reporting outcome bytes old new = Unit {0}

  -- where reports explain, it is told of a text that it is `-` itself
  abbrev pub TellsDash : Reporting → List ℕ → E → E → Type 0
  TellsDash Brief text old new = new ≡ old
  TellsDash Explained text old new =
      ((text ≡ codes "-") × hears old dash_line new) ⊎ ((text ≢ codes "-") × (new ≡ old))

  -- the same of an action that sets what the bytes are, if they give one
  abbrev pub SetTells : Reporting → Meaning → Result Action ToolFault → List ℕ → E → E → Type 0
  SetTells reporting means.Yaml (Ok action) bytes old new = TellsLossIfAsked reporting bytes old new
  SetTells reporting means.Text (Ok action) bytes old new = new ≡ old
  SetTells reporting meaning (Err fault) bytes old new = new ≡ old
