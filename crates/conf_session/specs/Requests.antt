-- What the pieces of a session ask for. Each piece is one request; a piece that is no command is a bad one.
use Rattle.std.specs.Prelude.{◌≡◌, ◌≢◌, ◌⊎◌, List, [], ◌∷◌, ◌++◌, ℕ, encode_utf8_all}
use Rattle.conf_session.specs.Prelude.{Gives, Tree, Refuses, ReadFault, Edit, Command, import_as, single, batch, StoreFault, noted}
use Rattle.conf_session.specs.{Prelude.Condition, Said.{Part, import_text, plain, Said, Says, single_part, batch_of_parts, get_at}}
use Rattle.conf_session.specs.Said.{export_of, all_names, checkpoint_now, conditional, noted_said, large_about, nothing}
use Rattle.{conf_session.specs.CommandLines.EndsChange, yaml_config.specs.Limits.config_limits}
use Rattle.{conf_state.specs.declared.fault.StoreFault.TheVariants.{Read, OutOfMemory}, conf_store.specs.Imports.{IsImportOf, RefusesText}}
use Rattle.yaml_events.specs.declared.read_fault.ReadFault.TheVariants as read

-- What a document says, with the texts of imports read, or with the reason why there is no command to perform. With
-- conditions it asks for a request only if they are met.
pub data Request : Type 0 where
  changing : (command : Command) → Request
  unread : (fault : StoreFault) → Request
  getting : (name path : List ℕ) → Request
  exporting : (name : List ℕ) → Request
  naming : Request
  checkpointing : Request
  if_met : (conditions : List Condition) (request : Request) → Request
  overlong_about : Request
  bad : Request

-- ---- the parts of a batch

-- the edit that a part is: the text of an import gives its tree
abbrev pub IsReadAs : Part → Edit → Type 0
IsReadAs (import_text name source) edit =
    (t : Tree) × Gives source config_limits t × (edit ≡ import_as name t)
IsReadAs (plain given) edit = edit ≡ given

-- the edits that parts are, one for each in its place
abbrev pub AreReadAs : List Part → List Edit → Type 0
AreReadAs [] [] = Unit {0}
AreReadAs [] (edit ∷ edits) = ⊥
AreReadAs (part ∷ parts) [] = ⊥
AreReadAs (part ∷ parts) (edit ∷ edits) = IsReadAs part edit × AreReadAs parts edits

-- the part is an import whose text is refused
abbrev pub RefusesPart : Part → ReadFault → Type 0
RefusesPart (import_text name source) fault =
    (fault ≢ read.OutOfMemory) × Refuses (encode_utf8_all source) config_limits fault
RefusesPart (plain edit) fault = ⊥

-- the first part whose text is refused is refused so; all parts before it are edits
pub record IsFirstRefused (parts : List Part) (fault : ReadFault) : Type 0 where
  pub before : List Part
  pub edits : List Edit
  pub part : Part
  pub further : List Part
  pub is : parts ≡ before ++ part ∷ further
  pub read : AreReadAs before edits
  pub refuses : RefusesPart part fault

-- ---- what is asked for

-- the same with an about: its command has it, if there is one to perform
abbrev pub noted_request : Tree → Request → Request
noted_request about (changing command) = changing (noted command about)
noted_request about request = request

-- Which request a document makes by what it says. Only imports ask for more reading. The name of a single import is
-- good and its text gives a tree, or one of them is refused. Of a batch all texts are read, whatever the names are, or
-- the first text that gives no tree is refused.
abbrev pub MeansRequest : Said → Request → Type 0
MeansRequest (single_part (import_text name source)) request =
    ((command : Command) × IsImportOf name (encode_utf8_all source) command × (request ≡ changing command))
    ⊎ ((fault : StoreFault) × (fault ≢ OutOfMemory) × RefusesText name (encode_utf8_all source) fault
    × (request ≡ unread fault))
MeansRequest (single_part (plain edit)) request = request ≡ changing (single edit)
MeansRequest (batch_of_parts parts) request =
    ((edits : List Edit) × AreReadAs parts edits × (request ≡ changing (batch edits)))
    ⊎ ((fault : ReadFault) × IsFirstRefused parts fault × (request ≡ unread (Read fault)))
MeansRequest (get_at name path) request = request ≡ getting name path
MeansRequest (export_of name) request = request ≡ exporting name
MeansRequest all_names request = request ≡ naming
MeansRequest checkpoint_now request = request ≡ checkpointing
MeansRequest (conditional conditions said) request =
    (met : Request) × MeansRequest said met × (request ≡ if_met conditions met)
MeansRequest (noted_said about said) request =
    (plain : Request) × MeansRequest said plain × (request ≡ noted_request about plain)
MeansRequest large_about request = request ≡ overlong_about
MeansRequest nothing request = request ≡ bad

-- the bytes of a piece ask for this request
abbrev pub Asks : List ℕ → Request → Type 0
Asks piece request = (said : Said) × Says piece said × MeansRequest said request

-- a change and what is behind its lines ask for this request
abbrev pub EndsAsking : List ℕ → Said → Request → Type 0
EndsAsking rest change request = (said : Said) × EndsChange rest change said × MeansRequest said request

-- the pieces ask for these requests, one for each in its place
abbrev pub AllAsk : List (List ℕ) → List Request → Type 0
AllAsk [] [] = Unit {0}
AllAsk [] (request ∷ requests) = ⊥
AllAsk (piece ∷ pieces) [] = ⊥
AllAsk (piece ∷ pieces) (request ∷ requests) = Asks piece request × AllAsk pieces requests
