-- Each text is UTF-8.
use Rattle.std.proofs.Common.{take, IsUtf8}
use Rattle.yaml_data.{proofs.Prelude.{IsUtf8-had, IsUtf8-string_bytes}, specs.{TextBytes.{node_bytes, text_bytes}, declared.text.Node.Node}}
use Rattle.yaml_data.specs.declared.text.Text.{Text}
use Rattle.yaml_data.specs.declared.text.Node.TheVariants as node

IsUtf8-node_bytes : (n : Node) → IsUtf8 (node_bytes n)
IsUtf8-node_bytes (node.Short s) = IsUtf8-had (take s.len s.bytes) s.utf8
IsUtf8-node_bytes (node.Long s) = IsUtf8-string_bytes s

-- the bytes of a text are UTF-8
pub IsUtf8-text_bytes : (t : Text) → IsUtf8 (text_bytes t)
IsUtf8-text_bytes t = IsUtf8-node_bytes t.node
