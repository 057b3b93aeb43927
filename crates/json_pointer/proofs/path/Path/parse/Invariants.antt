use Rattle.std.proofs.Common.{◌≡◌, ◌++◌, length}
use Rattle.json_pointer.{proofs.Prelude.{chars, IsUtf8, chars_rest}, specs.{Pointers.pointer_text, Tokens.texts}}
use Rattle.json_pointer.proofs.path.Path.parse.Given as goal

abbrev pub invariant-loop-c : goal.invariant-loop-c
invariant-loop-c l = (chars l.text ≡ pointer_text (texts l.tokens.items) ++ chars (chars_rest l.rest)) × IsUtf8 (chars_rest l.rest)

abbrev pub decreases-loop-c : goal.decreases-loop-c
decreases-loop-c l = length (chars_rest l.rest)
