-- Whatever follows, the array with the names that are left is that of all of them.
use Rattle.std.{proofs.Common.{◌≡◌, drop}, specs.Prelude.{encode_utf8_all, map}}
use Rattle.{conf_tools.proofs.Prelude.{text_of, json_texts}, yaml_forms.specs.TextArrays.bytes_with}
use Rattle.conf_tools.proofs.reads.names_array.Given as goal

abbrev pub invariant-loop-name : goal.invariant-loop-name
invariant-loop-name l =
    bytes_with l.array (map text_of (drop l.name-index l.names)) ≡ encode_utf8_all (json_texts (map text_of l.names))
