-- What the pieces of a session say. Each piece is one command document; a piece that is none says nothing.
use Rattle.std.specs.Prelude.{◌≡◌, ◌≢◌, ◌⊎◌, ℕ, Bool, true, false, List, [], ◌∷◌, codes, map, Option, Some, None, option_and_then}
use Rattle.std.specs.Prelude.{if◌then◌else◌}
use Rattle.conf_session.specs.Prelude.{chars, same_text, Tree, text, sequence, mapping, Elements, Members, no_member, member, Limits}
use Rattle.conf_session.specs.Prelude.{text_bytes, own_limits, IsRead, Refuses, ReadFault, Edit, import_as, edit_of, keys_are, values}
use Rattle.conf_session.specs.{Prelude.{edit_under, Condition, conditions_of, tree_of, AboutFault, fault_of}}
use Rattle.conf_session.specs.SaidConditions.{all_in, conditions_in}
use Rattle.conf_about.specs.declared.fault.AboutFault.TheVariants.{LongKey, TooMany, TooLarge}
use Rattle.yaml_events.specs.declared.read_fault.ReadFault.TheVariants.{OutOfMemory}
use Rattle.conf_session.specs.declared.parts.Part as code_part
use Rattle.conf_session.specs.declared.parts.Part.TheVariants as code_parts
use Rattle.conf_session.specs.declared.said.Change as code_change
use Rattle.conf_session.specs.declared.said.Change.TheVariants as code_changes
use Rattle.conf_session.specs.declared.said.Said as code
use Rattle.conf_session.specs.declared.said.Said.TheVariants as code_said

-- the most bytes of a piece, or of what comes after the last one (the rest)
abbrev pub piece_limit : ℕ
piece_limit = 16777216

-- the limits of a command document: its bytes, its depth, and its bytes in the one style
abbrev pub command_limits : Limits
command_limits = record { bytes = piece_limit; depth = own_limits.depth; style = 67108864 }

-- ---- the parts of commands that change configurations

-- an import whose text is not read yet, or another edit
pub data Part : Type 0 where
  import_text : (name source : List ℕ) → Part
  plain : (edit : Edit) → Part

-- the part that an edit is, where the value of an import is its text
abbrev pub as_part : Edit → Option Part
as_part (import_as name (text source)) = Some (import_text name source)
as_part (import_as name tree) = None
as_part edit = Some (plain edit)

-- a part is a mapping with exactly the keys of an edit in their order; the text of an import is under `text`
unfoldable pub part_from : Members → Option Part
part_from ms = option_and_then as_part (edit_under (codes "text") ms)

abbrev pub part_of : Tree → Option Part
part_of (text value) = None
part_of (sequence ts) = None
part_of (mapping ms) = part_from ms

-- the parts that the elements of a sequence are, if each of them is one
abbrev pub parts_of : Elements → Option (List Part)
parts_of ts = all_in part_of ts

-- ---- what a document says

pub data Said : Type 0 where
  single_part : (part : Part) → Said
  batch_of_parts : (parts : List Part) → Said
  get_at : (name path : List ℕ) → Said
  export_of : (name : List ℕ) → Said
  all_names : Said
  checkpoint_now : Said
  conditional : (conditions : List Condition) (said : Said) → Said
  noted_said : (about : Tree) (said : Said) → Said
  large_about : Said
  nothing : Said

abbrev pub part_said : Option Part → Said
part_said (Some part) = single_part part
part_said None = nothing

abbrev pub parts_said : Option (List Part) → Said
parts_said (Some parts) = batch_of_parts parts
parts_said None = nothing

abbrev pub batch_said : List Tree → Said
batch_said (sequence ts ∷ []) = parts_said (parts_of ts)
batch_said ts = nothing

-- the values are two texts
abbrev pub are_two_texts : List Tree → Bool
are_two_texts (text one ∷ text other ∷ []) = true
are_two_texts ts = false

abbrev pub get_said : List Tree → Said
get_said (text name ∷ text path ∷ []) = get_at name path
get_said ts = nothing

abbrev pub export_said : List Tree → Said
export_said (text name ∷ []) = export_of name
export_said ts = nothing

-- the one value is the empty text
abbrev pub is_empty_text : List Tree → Bool
is_empty_text (text value ∷ []) = same_text value []
is_empty_text ts = false

abbrev pub names_said : List Tree → Said
names_said ts = if is_empty_text ts then all_names else nothing

abbrev pub checkpoint_said : List Tree → Said
checkpoint_said ts = if is_empty_text ts then checkpoint_now else nothing

abbrev pub batch_keys : List (List ℕ)
batch_keys = codes "batch" ∷ []

abbrev pub get_keys : List (List ℕ)
get_keys = codes "get" ∷ codes "path" ∷ []

abbrev pub export_keys : List (List ℕ)
export_keys = codes "export" ∷ []

abbrev pub names_keys : List (List ℕ)
names_keys = codes "names" ∷ []

abbrev pub checkpoint_keys : List (List ℕ)
checkpoint_keys = codes "checkpoint" ∷ []

-- ---- a command with conditions

-- a command that changes configurations: a batch, or a part
abbrev pub change_said : Members → Said
change_said ms = if keys_are batch_keys ms then batch_said (values ms) else part_said (part_from ms)

-- only a command that changes configurations has conditions
abbrev pub with_conditions : Option (List Condition) → Said → Said
with_conditions (Some conditions) (single_part part) = conditional conditions (single_part part)
with_conditions (Some conditions) (batch_of_parts parts) = conditional conditions (batch_of_parts parts)
with_conditions conditions said = nothing

-- the first key is `if`
abbrev pub begins_with_if : Members → Bool
begins_with_if no_member = false
begins_with_if (member key t ms) = same_text key (codes "if")

-- under `if` are the conditions, and after it is the command
abbrev pub conditional_said : Members → Said
conditional_said no_member = nothing
conditional_said (member key t ms) = with_conditions (conditions_in t) (change_said ms)

-- a command is a part, or a mapping with exactly these keys; a part or a batch may have conditions before it
unfoldable pub command_said : Members → Said
command_said ms =
    if keys_are batch_keys ms then batch_said (values ms)
    else if keys_are get_keys ms then get_said (values ms)
    else if keys_are export_keys ms then export_said (values ms)
    else if keys_are names_keys ms then names_said (values ms)
    else if keys_are checkpoint_keys ms then checkpoint_said (values ms)
    else if begins_with_if ms then conditional_said ms
    else part_said (part_from ms)

-- ---- a command with an about

-- what is under the last key, if that is `about`
abbrev pub last_about : Members → Option Tree
last_about no_member = None
last_about (member key t no_member) = if same_text key (codes "about") then Some t else None
last_about (member key t (member other u ms)) = last_about (member other u ms)

-- the members before the last
abbrev pub without_last : Members → Members
without_last no_member = no_member
without_last (member key t no_member) = no_member
without_last (member key t (member other u ms)) = member key t (without_last (member other u ms))

-- only a command that changes configurations has an about
abbrev pub with_about : Tree → Said → Said
with_about about (single_part part) = noted_said about (single_part part)
with_about about (batch_of_parts parts) = noted_said about (batch_of_parts parts)
with_about about (conditional conditions (single_part part)) = conditional conditions (noted_said about (single_part part))
with_about about (conditional conditions (batch_of_parts parts)) =
    conditional conditions (noted_said about (batch_of_parts parts))
with_about about said = nothing

-- where a limit of abouts is broken, the document says so; with any other fault it is no command
abbrev pub fault_said : AboutFault → Said
fault_said LongKey = large_about
fault_said TooMany = large_about
fault_said TooLarge = large_about
fault_said fault = nothing

-- a command with an about; or what the about's fault says, whatever the command is
abbrev pub about_said : Option AboutFault → Tree → Said → Said
about_said None about said = with_about about said
about_said (Some fault) about said = fault_said fault

-- all members as a command; or those before the last, which has the key `about`
abbrev pub said_before : Option Tree → Members → Said
said_before None ms = command_said ms
said_before (Some about) ms = about_said (fault_of about) about (command_said (without_last ms))

-- a document is a command, which may have an about as its last member
unfoldable pub said_by : Tree → Said
said_by (text value) = nothing
said_by (sequence ts) = nothing
said_by (mapping ms) = said_before (last_about ms) ms

-- the piece gives a tree that says so, or gives none and says nothing
abbrev pub Says : List ℕ → Said → Type 0
Says piece said =
    ((t : Tree) × IsRead piece command_limits t × (said ≡ said_by t))
    ⊎ ((fault : ReadFault) × (fault ≢ OutOfMemory) × Refuses piece command_limits fault × (said ≡ nothing))

-- ---- what values of the code's types say

abbrev pub part_seen : code_part.Part → Part
part_seen (code_parts.Import name source) = import_text (chars (text_bytes name)) (chars (text_bytes source))
part_seen (code_parts.Plain edit) = plain (edit_of edit)

abbrev pub parts_seen : List code_part.Part → List Part
parts_seen parts = map part_seen parts

abbrev pub change_seen : code_change.Change → Said
change_seen (code_changes.Single part) = single_part (part_seen part)
change_seen (code_changes.Batch parts) = batch_of_parts (parts_seen parts.items)

abbrev pub said_of : code.Said → Said
said_of (code_said.Single part) = single_part (part_seen part)
said_of (code_said.Batch parts) = batch_of_parts (parts_seen parts.items)
said_of (code_said.Get name path) = get_at (chars (text_bytes name)) (chars (text_bytes path))
said_of (code_said.Export name) = export_of (chars (text_bytes name))
said_of code_said.Names = all_names
said_of code_said.Checkpoint = checkpoint_now
said_of (code_said.Conditional conditions change) = conditional (conditions_of conditions.items) (change_seen change)
said_of (code_said.Noted change about) = noted_said (tree_of about) (change_seen change)
said_of (code_said.ConditionalNoted conditions change about) =
    conditional (conditions_of conditions.items) (noted_said (tree_of about) (change_seen change))
said_of code_said.LargeAbout = large_about
said_of code_said.Nothing = nothing
