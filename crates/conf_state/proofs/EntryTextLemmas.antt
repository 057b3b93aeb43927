-- The length of a configuration's lines in a base text, and what an edit leaves of the others.
use Rattle.std.proofs.Common.{◌≡◌, ℕ, min, List, Some, sym, ap, ◌∙◌, arith}
use Rattle.conf_state.proofs.{Prelude.{byte_len, Tree}, BaseLemmas.entries_length-short, LimitLemmas.entries_length-found}
use Rattle.conf_state.specs.{States.{Contents, config_named}, BaseTexts.entry_length, Limits.IsState, EntryTexts.lines_if_there}
use Rattle.conf_state.specs.EntryTexts.{entry_named}

-- the length of a configuration's lines is within any count of bytes
pub entry-exact : (s : Contents) (name : List ℕ) (t : Tree) → IsState s → config_named s.configs name ≡ Some t
    → (n : ℕ) → n ≡ min (entry_length name t) 18446744073709551615 → n ≡ byte_len (entry_named s.configs name)
unfolding entry_length
entry-exact s name t kept found n is =
    let numbered = kept.numbered in
    let short = kept.short in
    let all = entries_length-short s.count s.configs numbered short in
    let one = entries_length-found s.configs name t found in
    let exact : n ≡ entry_length name t = omega (arith, is, all, one) in
    exact ∙ ap (λ found. byte_len (lines_if_there name found)) (sym found)
