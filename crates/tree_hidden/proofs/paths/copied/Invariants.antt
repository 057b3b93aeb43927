use Rattle.std.proofs.Common.{◌≡◌, ◌++◌, drop}
use Rattle.tree_hidden.{proofs.Prelude.texts, specs.Tokens.tokens_of}
use Rattle.tree_hidden.proofs.paths.copied.Given as goal

abbrev pub invariant-loop-token : goal.invariant-loop-token
invariant-loop-token l = tokens_of l.copies.items ++ texts (drop l.token-index l.tokens) ≡ texts l.tokens
