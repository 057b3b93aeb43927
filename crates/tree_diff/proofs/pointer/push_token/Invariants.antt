use Rattle.std.proofs.Common.{◌≡◌, ◌++◌, string_bytes}
use Rattle.tree_diff.proofs.Prelude.{chars, token_text}
use Rattle.tree_diff.proofs.pointer.push_token.Given as goal

abbrev pub invariant-loop-c : goal.invariant-loop-c
invariant-loop-c l = chars (string_bytes l.pointer) ≡ chars (string_bytes l.initial.pointer) ++ token_text l.yielded
