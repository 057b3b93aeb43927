use Rattle.std.proofs.Common.{◌≡◌, take}
use Rattle.conf_session.{proofs.Prelude.list_all, specs.CommandLines.bare_char}
use Rattle.conf_session.proofs.field_lines.are_bare.Given as goal

abbrev pub invariant-loop-byte : goal.invariant-loop-byte
invariant-loop-byte l = l.all ≡ list_all bare_char (take l.byte-index l.bytes)
