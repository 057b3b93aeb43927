-- The links of a table's chains, and what stays on the chains when one number is taken off.
use Rattle.std.specs.Prelude.{◌≡◌, ◌<◌, ℕ, List, length, get_or, true}
use Rattle.tree_path.specs.{declared.key_table.KeyTable.KeyTable, Tables.on_chain, Tables.chain_of}

-- a number's link is this one
abbrev pub LeadsTo : List ℕ → ℕ → ℕ → Type 0
LeadsTo links number link = (number < length links) × (get_or links number 0 ≡ link)

-- with other links, each number but one is on the chains that it was on
pub record KeepsOthers (number : ℕ) (old new : KeyTable) : Type 0 where
  pub buckets : length new.newest.items ≡ length old.newest.items
  pub numbers : length new.before.items ≡ length old.before.items
  pub others : (key : List ℕ) (n : ℕ) → (n ≡ number → ⊥)
      → on_chain old.before.items (length old.before.items) (chain_of old.newest.items key) n ≡ true
      → on_chain new.before.items (length new.before.items) (chain_of new.newest.items key) n ≡ true
