use Rattle.std.proofs.Common.{◌≡◌, drop}
use Rattle.conf_about.{proofs.WordLemmas.{behind, texts}, specs.AboutWords.members_in}
use Rattle.conf_about.proofs.words.pairs_of.Given as goal

-- the pairs that were made, and then those that are left, are those of all words
abbrev pub invariant-loop-word : goal.invariant-loop-word
invariant-loop-word l = members_in (texts l.words) ≡ behind l.pairs.items (drop l.word-index l.words)
