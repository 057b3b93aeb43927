-- The laws of JSON texts, as statements.
use Rattle.std.specs.Prelude.{◌≤◌}
use Rattle.yaml_forms.specs.{Prelude.{byte_len, Tree, IsTextTree, Limits, Good, Gives, CanReadAs}, Json.{json_text, json_line}}
use Rattle.yaml_forms.specs.JsonGrammar.{IsJsonOf}

-- each tree of texts can be read from its JSON text
abbrev pub JsonPresents : Type 0
JsonPresents = (t : Tree) → IsTextTree t → CanReadAs (json_text t) t

-- and from that text with a line feed after it
abbrev pub JsonLinePresents : Type 0
JsonLinePresents = (t : Tree) → IsTextTree t → CanReadAs (json_line t) t

-- a good tree's JSON text gives that tree
abbrev pub JsonReads : Type 0
JsonReads = (t : Tree) (limits : Limits) → Good t limits → byte_len (json_text t) ≤ limits.bytes
    → Gives (json_text t) limits t

-- and so does that text with a line feed after it
abbrev pub JsonLineReads : Type 0
JsonLineReads = (t : Tree) (limits : Limits) → Good t limits → byte_len (json_line t) ≤ limits.bytes
    → Gives (json_line t) limits t

-- each tree's JSON text is JSON that means the tree
abbrev pub JsonIsJson : Type 0
JsonIsJson = (t : Tree) → IsTextTree t → IsJsonOf t (json_text t)

-- and so is that text with a line feed after it
abbrev pub JsonLineIsJson : Type 0
JsonLineIsJson = (t : Tree) → IsTextTree t → IsJsonOf t (json_line t)
