use Rattle.std.proofs.Common.{◌≡◌, ◌++◌, drop, encode_utf8_all, string_bytes}
use Rattle.yaml_forms.{proofs.Prelude.elements_of, specs.KeyLines.index_lines}
use Rattle.yaml_forms.proofs.key_lines.indexes_of.Given as goal

-- the lines so far, and then those of the elements that are left, are all of them
abbrev pub invariant-loop-index : goal.invariant-loop-index
invariant-loop-index l =
    string_bytes l.lines ++ encode_utf8_all (index_lines l.index (elements_of (drop l.index l.items)))
    ≡ encode_utf8_all (index_lines 0 (elements_of l.items))
