-- What a table of keys says of a mapping: each key has a number, the numbers grow with the places, and the chain of a
-- key's bucket has its number. So a key that is on no chain is in the mapping nowhere.
use Rattle.std.specs.Prelude.{◌≡◌, ◌<◌, ◌≤◌, ◌+◌, ◌++◌, ◌-◌, ◌*◌, ◌%◌, ◌^◌, ℕ, zero, suc, List, [], ◌∷◌, length, get_or, Ok, IfSome, Bool}
use Rattle.std.specs.Prelude.{true, false, ◌||◌, if◌then◌else◌, ◌==◌, nat_lt}
use Rattle.tree_path.specs.{Prelude.{chars, same_text, Tree, text, sequence, mapping, Members, no_member, member, text_bytes}, Paths.at}
use Rattle.tree_path.specs.declared.key_index.{KeyIndex.KeyIndex, Reach.{Reach, TheVariants.{Around, Key, Below, Apart}}}
use Rattle.{tree_path.specs.declared.key_table.KeyTable.KeyTable, yaml_data.specs.declared.text.Text.Text}

-- ---- buckets

-- what a character makes of the hash of those before it
abbrev pub next_hash : ℕ → ℕ → ℕ → ℕ
next_hash factor hash c = ((hash + c) % 2 ^ 32 * factor) % 2 ^ 32

-- what the characters of a key make of the hash of those before them
abbrev pub hash_after : ℕ → ℕ → List ℕ → ℕ
hash_after factor hash [] = hash
hash_after factor hash (c ∷ cs) = hash_after factor (next_hash factor hash c) cs

-- the bucket of a key, of so many
unfoldable pub bucket_of : ℕ → List ℕ → ℕ
bucket_of size key = hash_after 0x0100_0193 0 key % size

-- ---- numbers and places

-- how many of the removed numbers, which rise, are below a number
abbrev pub below : List ℕ → ℕ → ℕ
below [] n = 0
below (r ∷ rs) n = if nat_lt r n then suc (below rs n) else 0

-- the place of the key with a number
abbrev pub place_at : List ℕ → ℕ → ℕ
place_at removed n = n - below removed n

-- numbers that rise, from `least` on and below `limit`
abbrev pub Rise : ℕ → ℕ → List ℕ → Type 0
Rise least limit [] = Unit {0}
Rise least limit (r ∷ rs) = (least ≤ r) × (r < limit) × Rise (suc r) limit rs

-- a number that isn't among rising ones stands at a place between them
abbrev pub StandsAt : List ℕ → ℕ → ℕ → Type 0
StandsAt rs n place =
    ((before : ℕ) → suc before ≡ place → get_or rs before 0 < n) × (place < length rs → n < get_or rs place 0)

-- ---- chains

-- Whether a chain has the number n. A link is one more than a number, or 0 for the end: the chain begins at a link, and
-- each number has the link to the one before it. Numbers fall along a chain; those from m on are passed over.
abbrev pub on_chain : List ℕ → ℕ → ℕ → ℕ → Bool
on_chain links zero link n = false
on_chain links (suc m) link n =
    if link == suc m then (n == m) || on_chain links m (get_or links m 0) n else on_chain links m link n

-- the link at which the chain of a key's bucket begins
abbrev pub chain_of : List ℕ → List ℕ → ℕ
chain_of newest key = get_or newest (bucket_of (length newest) key) 0

-- a key at a place has a number, which is on its bucket's chain and has the place
abbrev pub IsListed : KeyTable → ℕ → List ℕ → Type 0
IsListed table place key =
    (n : ℕ)
    × (on_chain table.before.items (length table.before.items) (chain_of table.newest.items key) n ≡ true)
    × (place_at table.removed.items n ≡ place)

-- ---- tables and indices

-- the keys of a mapping
abbrev pub keys_of : Members → List (List ℕ)
keys_of no_member = []
keys_of (member key t ms) = key ∷ keys_of ms

-- a table lists these keys, each at its place
pub record Lists (table : KeyTable) (keys : List (List ℕ)) : Type 0 where
  pub some : 0 < length table.newest.items
  pub numbers : length table.before.items ≡ length keys + length table.removed.items
  pub rise : Rise 0 (length table.before.items) table.removed.items
  pub listed : (place : ℕ) → place < length keys → IsListed table place (get_or keys place [])

-- a tree is a mapping whose keys a table lists
abbrev pub ListsIn : KeyTable → Tree → Type 0
ListsIn table (text value) = ⊥
ListsIn table (sequence ts) = ⊥
ListsIn table (mapping ms) = Lists table (keys_of ms)

-- the steps of an index
abbrev pub steps_of : List Text → List (List ℕ)
steps_of [] = []
steps_of (step ∷ steps) = chars (text_bytes step) ∷ steps_of steps

-- in t the index's steps lead to a mapping whose keys its table lists, if it has a table
abbrev pub Indexes : KeyIndex → Tree → Type 0
Indexes index t =
    IfSome index.table (λ table. (u : Tree) × (at t (steps_of index.steps.items) ≡ Ok u) × ListsIn table u)

-- ---- where an edit is made, seen from a mapping

-- the path leaves the steps at a mapping: it goes on by another key there
pub record Leaves (t : Tree) (steps path : List (List ℕ)) : Type 0 where
  pub common : List (List ℕ)
  pub step : List ℕ
  pub steps_after : List (List ℕ)
  pub token : List ℕ
  pub tokens_after : List (List ℕ)
  pub ms : Members
  pub steps_are : steps ≡ common ++ step ∷ steps_after
  pub path_is : path ≡ common ++ token ∷ tokens_after
  pub other : same_text step token ≡ false
  pub there : at t common ≡ Ok (mapping ms)

-- what is known of an edit's path
abbrev pub Reaches : Reach → Tree → List (List ℕ) → List (List ℕ) → Type 0
Reaches Around t steps path = Unit {0}
Reaches Key t steps path = (key : List ℕ) × (path ≡ steps ++ key ∷ [])
Reaches Below t steps path = (key next : List ℕ) × (rest : List (List ℕ)) × (path ≡ steps ++ key ∷ next ∷ rest)
Reaches Apart t steps path = Leaves t steps path
