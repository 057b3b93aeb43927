-- What an about is, and why a tree is none.
use Rattle.std.specs.Prelude.{◌≡◌, ℕ, suc, ◌≤◌, ◌==◌, nat_lt, not, Bool, true, false, if◌then◌else◌, IsTrue, List, [], ◌∷◌, length, Option}
use Rattle.std.specs.Prelude.{Some, None, option_and_then}
use Rattle.conf_about.specs.Prelude.{style_text, byte_len, is_empty, Tree, text, sequence, mapping, Members, no_member, member, IsTextTree}
use Rattle.conf_about.specs.{Prelude.{keys_differ, value_of}, declared.fault.AboutFault.{AboutFault, TheVariants.{NoMapping, NoText}}}
use Rattle.conf_about.specs.declared.fault.AboutFault.TheVariants.{NoKey, LongKey, TooMany, Twice, TooLarge}

-- ---- the limits

-- the most characters of a key
abbrev pub key_limit : ℕ
key_limit = 64

-- the most pairs
abbrev pub pair_limit : ℕ
pair_limit = 16

-- the most bytes in the one style
abbrev pub style_limit : ℕ
style_limit = 4096

-- ---- what an about is

-- each key has 1 to 64 characters, and each value is a text
abbrev pub ArePairs : Members → Type 0
ArePairs no_member = Unit {0}
ArePairs (member key (text value) ms) = (1 ≤ length key) × (length key ≤ key_limit) × ArePairs ms
ArePairs (member key (sequence ts) ms) = ⊥
ArePairs (member key (mapping ns) ms) = ⊥

-- how many pairs there are
abbrev pub pair_count : Members → ℕ
pair_count no_member = 0
pair_count (member key t ms) = suc (pair_count ms)

-- A mapping of 1 to 16 keys, which differ, to texts. A key has 1 to 64 characters, and the whole has at most 4,096
-- bytes in the one style.
pub record IsAbout (t : Tree) : Type 0 where
  pub members : Members
  pub is : t ≡ mapping members
  pub texts : IsTextTree t
  pub pairs : ArePairs members
  pub some : 1 ≤ pair_count members
  pub few : pair_count members ≤ pair_limit
  pub differ : IsTrue (keys_differ members)
  pub short : byte_len (style_text t) ≤ style_limit

-- the keys with their texts, in order
abbrev pub pairs_in : Members → List (List ℕ × List ℕ)
pairs_in no_member = []
pairs_in (member key (text value) ms) = (key, value) ∷ pairs_in ms
pairs_in (member key (sequence ts) ms) = pairs_in ms
pairs_in (member key (mapping ns) ms) = pairs_in ms

-- the same of a tree
abbrev pub pairs_of : Tree → List (List ℕ × List ℕ)
pairs_of (text value) = []
pairs_of (sequence ts) = []
pairs_of (mapping ms) = pairs_in ms

-- the text of a tree, if it is one
abbrev pub text_in : Tree → Option (List ℕ)
text_in (text value) = Some value
text_in (sequence ts) = None
text_in (mapping ms) = None

-- the text under a key, if there is one
abbrev pub text_under : Tree → List ℕ → Option (List ℕ)
text_under (text value) key = None
text_under (sequence ts) key = None
text_under (mapping ms) key = option_and_then text_in (value_of ms key)

-- ---- why a tree is none

-- the tree is a text
abbrev pub is_text : Tree → Bool
is_text (text value) = true
is_text (sequence ts) = false
is_text (mapping ms) = false

-- the first fault of a pair by itself: of its key, and then of its value
abbrev pub pair_fault : List ℕ → Tree → Option AboutFault
pair_fault key value =
    if is_empty key then Some NoKey
    else if nat_lt key_limit (length key) then Some LongKey
    else if is_text value then None
    else Some NoText

-- the first of two faults
abbrev pub first_of : Option AboutFault → Option AboutFault → Option AboutFault
first_of (Some fault) later = Some fault
first_of None later = later

-- the fault of the first pair that has one
abbrev pub pairs_fault : Members → Option AboutFault
pairs_fault no_member = None
pairs_fault (member key t ms) = first_of (pair_fault key t) (pairs_fault ms)

-- the first fault of a mapping whose pairs by themselves are good
abbrev pub whole_fault : Members → Option AboutFault
whole_fault ms =
    if pair_count ms == 0 then Some NoKey
    else if nat_lt pair_limit (pair_count ms) then Some TooMany
    else if not (keys_differ ms) then Some Twice
    else if nat_lt style_limit (byte_len (style_text (mapping ms))) then Some TooLarge
    else None

-- The first fault of a tree: it is no mapping; a pair has a fault; there is no pair; there are too many; a key comes
-- twice; it is too large.
abbrev pub fault_of : Tree → Option AboutFault
fault_of (text value) = Some NoMapping
fault_of (sequence ts) = Some NoMapping
fault_of (mapping ms) = first_of (pairs_fault ms) (whole_fault ms)
