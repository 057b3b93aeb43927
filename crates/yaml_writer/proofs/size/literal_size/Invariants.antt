use Rattle.std.proofs.Common.{◌≡◌, ◌+◌, ◌*◌, true, length}
use Rattle.yaml_writer.proofs.Prelude.{chars, byte_len, literal_lines}
use denote.Shadow.{shadow}
use denote.Text.{Utf8}
use Rattle.yaml_writer.proofs.size.literal_size.Given as goal

-- the bytes so far and those of the lines that are left are all bytes, at the indentation 2 and at 0
abbrev pub invariant-loop-line : goal.invariant-loop-line
invariant-loop-line l =
    shadow (Utf8 l.rest)
    × (l.size.bytes + byte_len (literal_lines 2 true (chars l.rest))
    ≡ l.header + byte_len (literal_lines 2 true (chars l.text)))
    × (l.size.bytes + byte_len (literal_lines 0 true (chars l.rest))
    ≡ l.header + byte_len (literal_lines 0 true (chars l.text)) + 2 * l.size.lines)

abbrev pub decreases-loop-line : goal.decreases-loop-line
decreases-loop-line l = length l.rest
