use Rattle.std.proofs.Common.{◌≡◌, ◌++◌, drop, encode_utf8_all, string_bytes}
use Rattle.yaml_forms.{proofs.Prelude.members_of, specs.KeyLines.member_lines}
use Rattle.yaml_forms.proofs.key_lines.keys_of.Given as goal

-- the lines so far, and then those of the keys that are left, are all of them
abbrev pub invariant-loop-key : goal.invariant-loop-key
invariant-loop-key l =
    string_bytes l.lines ++ encode_utf8_all (member_lines (members_of (drop l.key-index l.pairs)))
    ≡ encode_utf8_all (member_lines (members_of l.pairs))
