use Rattle.std.{proofs.Common.{◌≡◌, length}, specs.Prelude.is_none}
use Rattle.json_pointer.{proofs.Prelude.{chars, IsUtf8, chars_rest}, specs.Pointers.first_stray}
use Rattle.json_pointer.proofs.pointer.has_whole_escapes.Given as goal

abbrev pub invariant-loop-c : goal.invariant-loop-c
invariant-loop-c l = (is_none (first_stray (chars l.text)) ≡ is_none (first_stray (chars (chars_rest l.rest)))) × IsUtf8 (chars_rest l.rest)

abbrev pub decreases-loop-c : goal.decreases-loop-c
decreases-loop-c l = length (chars_rest l.rest)
