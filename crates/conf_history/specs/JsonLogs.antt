-- The log of a store's file as JSON (RFC 8259): an object for each command, without whitespace between its parts.
use Rattle.std.specs.Prelude.{ℕ, List, [], ◌∷◌, ◌++◌, codes, decimal, Option, Some, None}
use Rattle.conf_history.specs.Prelude.{Edit, import_as, set_at, delete_at, Command, single, batch, noted, text_under}
use Rattle.{conf_history.specs.AboutKeys.usual_keys, yaml_grammar.specs.Trees.Tree}
use Rattle.yaml_forms.specs.Json.{json_member, json_string, json_text}

-- an edit
abbrev pub edit_json : Edit → List ℕ
edit_json (import_as name tree) = codes "{\"import\":" ++ json_string name ++ codes ",\"tree\":" ++ json_text tree ++ codes "}"
edit_json (set_at name path value) =
    codes "{\"set\":" ++ json_string name ++ codes ",\"path\":" ++ json_string path ++ codes ",\"value\":" ++ json_text value ++ codes "}"
edit_json (delete_at name path) = codes "{\"delete\":" ++ json_string name ++ codes ",\"path\":" ++ json_string path ++ codes "}"

-- edits, the first after this lead, and each further one after a comma
abbrev pub edits_json : List ℕ → List Edit → List ℕ
edits_json lead [] = []
edits_json lead (edit ∷ edits) = lead ++ edit_json edit ++ edits_json (codes ",") edits

-- a comma, and a text as a member under a key; nothing where there is no text
abbrev pub text_json : List ℕ → Option (List ℕ) → List ℕ
text_json key None = []
text_json key (Some content) = codes "," ++ json_member key (json_string content)

-- the same for each of these keys, with the text that an about has under it
abbrev pub texts_json : List (List ℕ) → Tree → List ℕ
texts_json [] about = []
texts_json (key ∷ keys) about = text_json key (text_under about key) ++ texts_json keys about

-- who, when and why, as far as an about says so, and then the whole about
abbrev pub about_json : Tree → List ℕ
about_json about = texts_json usual_keys about ++ codes ",\"about\":" ++ json_text about

-- the same for the about of a command; nothing where it has none
abbrev pub note_json : Command → List ℕ
note_json (single edit) = []
note_json (batch edits) = []
note_json (noted command about) = about_json about

-- the edits of a command
abbrev pub edits_in : Command → List Edit
edits_in (single edit) = edit ∷ []
edits_in (batch edits) = edits
edits_in (noted command about) = edits_in command

-- a command with a number
abbrev pub command_json : ℕ → Command → List ℕ
command_json number command =
    codes "{\"at\":" ++ json_string (decimal number) ++ note_json command
    ++ codes ",\"edits\":[" ++ edits_json [] (edits_in command) ++ codes "]}"

-- the same with a line feed after it
abbrev pub command_json_line : ℕ → Command → List ℕ
command_json_line number command = command_json number command ++ codes "\n"
