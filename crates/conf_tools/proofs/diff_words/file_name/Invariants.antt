use Rattle.std.proofs.Common.{string_bytes}
use Rattle.conf_tools.{proofs.Prelude.chars, specs.DiffWords.IsNameOf}
use Rattle.conf_tools.proofs.diff_words.file_name.Given as goal

-- what was found is the name in the characters so far, and whether it goes on
abbrev pub invariant-loop-c : goal.invariant-loop-c
invariant-loop-c l = IsNameOf l.yielded (chars (string_bytes l.name)) l.is_before_dot
