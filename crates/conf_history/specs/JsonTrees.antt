-- The trees whose JSON texts a log has.
use Rattle.std.specs.Prelude.{◌≡◌, ℕ, List, [], ◌∷◌, codes, decimal, Option, Some, None}
use Rattle.conf_history.specs.Prelude.{Edit, import_as, set_at, delete_at, Command, single, batch, noted, text_under}
use Rattle.conf_history.specs.{AboutKeys.usual_keys, JsonLogs.{edits_in, command_json_line}}
use Rattle.yaml_grammar.specs.Trees.{Tree, text, sequence, mapping, Elements, no_element, element, Members, no_member, member}
use Rattle.yaml_forms.specs.Json.{json_line}

-- an edit
abbrev pub edit_tree : Edit → Tree
edit_tree (import_as name tree) = mapping (member (codes "import") (text name) (member (codes "tree") tree no_member))
edit_tree (set_at name path value) =
    mapping (member (codes "set") (text name) (member (codes "path") (text path) (member (codes "value") value no_member)))
edit_tree (delete_at name path) = mapping (member (codes "delete") (text name) (member (codes "path") (text path) no_member))

-- edits
abbrev pub edit_trees : List Edit → Elements
edit_trees [] = no_element
edit_trees (edit ∷ edits) = element (edit_tree edit) (edit_trees edits)

-- members behind a text under a key; alone where there is no text
abbrev pub behind_text : List ℕ → Option (List ℕ) → Members → Members
behind_text key None ms = ms
behind_text key (Some content) ms = member key (text content) ms

-- the same behind the texts that an about has under these keys
abbrev pub behind_texts : List (List ℕ) → Tree → Members → Members
behind_texts [] about ms = ms
behind_texts (key ∷ keys) about ms = behind_text key (text_under about key) (behind_texts keys about ms)

-- the same behind what a command's about adds
abbrev pub behind_note : Command → Members → Members
behind_note (single edit) ms = ms
behind_note (batch edits) ms = ms
behind_note (noted command about) ms = behind_texts usual_keys about (member (codes "about") about ms)

-- a command with a number
abbrev pub command_tree : ℕ → Command → Tree
command_tree number command =
    mapping (member (codes "at") (text (decimal number))
    (behind_note command (member (codes "edits") (sequence (edit_trees (edits_in command))) no_member)))

-- the line of each command is the JSON text of that tree, and a line feed
abbrev pub LinesAreJson : Type 0
LinesAreJson = (number : ℕ) (command : Command) → command_json_line number command ≡ json_line (command_tree number command)
