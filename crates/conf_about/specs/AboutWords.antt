-- What words `KEY=TEXT` say.
use Rattle.std.specs.Prelude.{ℕ, ◌==◌, if◌then◌else◌, List, [], ◌∷◌, Option, Some, None, option_map, option_and_then}
use Rattle.conf_about.specs.{Prelude.{Tree, text, sequence, mapping, Members, no_member, member}, declared.fault.AboutFault.AboutFault}
use Rattle.conf_about.specs.{declared.fault.AboutFault.TheVariants.NoKey, Abouts.fault_of}

-- the code point of `=`
abbrev pub equals_sign : ℕ
equals_sign = 61

-- what stands before the first `=` of a word, and what behind it; nothing if it has none
abbrev pub pair_in : List ℕ → Option (List ℕ × List ℕ)
pair_in [] = None
pair_in (c ∷ cs) =
    if c == equals_sign then Some ([], cs)
    else option_map (λ (pair : List ℕ × List ℕ). (c ∷ pair.0, pair.1)) (pair_in cs)

-- the pairs of words, in order; nothing if a word has no `=`
abbrev pub members_in : List (List ℕ) → Option Members
members_in [] = Some no_member
members_in (word ∷ words) =
    option_and_then (λ (pair : List ℕ × List ℕ). option_map (member pair.0 (text pair.1)) (members_in words)) (pair_in word)

-- the mapping that words say
abbrev pub said_by : List (List ℕ) → Option Tree
said_by words = option_map mapping (members_in words)

-- the fault of what is said: a word has no `=`, or the first fault of the mapping
abbrev pub fault_in : Option Tree → Option AboutFault
fault_in None = Some NoKey
fault_in (Some t) = fault_of t

-- the members with a pair more at the end
abbrev pub members_with : Members → List ℕ → List ℕ → Members
members_with no_member key value = member key (text value) no_member
members_with (member other t ms) key value = member other t (members_with ms key value)

-- a mapping with a pair more at the end; any other tree as it is
abbrev pub with_pair : Tree → List ℕ → List ℕ → Tree
with_pair (text content) key value = text content
with_pair (sequence ts) key value = sequence ts
with_pair (mapping ms) key value = mapping (members_with ms key value)
