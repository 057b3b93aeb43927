-- The bytes of a text.
use Rattle.std.specs.Prelude.{ℕ, List, take, string_bytes}
use Rattle.yaml_data.specs.declared.{short.Short.Short, text.{Node.Node, Text.Text}}
use Rattle.yaml_data.specs.declared.text.Node.TheVariants as node

-- of a text that is stored in the value itself
abbrev pub short_bytes : Short → List ℕ
short_bytes s = take s.len s.bytes

abbrev pub node_bytes : Node → List ℕ
node_bytes (node.Short s) = short_bytes s
node_bytes (node.Long s) = string_bytes s

-- `t.as_str()`
abbrev pub text_bytes : Text → List ℕ
text_bytes t = node_bytes t.node
