-- The keys of members.
use Rattle.std.{specs.{Prelude.{◌≡◌, ℕ, List, [], ◌∷◌}, Borrow.Bor, Cmp.Lexicographic.slice_cmp}, proofs.Common.{Less, nat_cmp}}
use Rattle.yaml_styled.specs.Prelude.{chars, IsUtf8, Members, no_member, member, nothing}

-- members that have these keys, with values that are not kept
abbrev pub named : List (Bor (List ℕ)) → Members
named [] = no_member
named (key ∷ keys) = member (chars key.now) nothing (named keys)

-- the same members, with values that are not kept
abbrev pub keys_alone : Members → Members
keys_alone no_member = no_member
keys_alone (member key t ms) = member key nothing (keys_alone ms)

-- a text is less than another, by its bytes
abbrev pub IsBelow : List ℕ → List ℕ → Type 0
IsBelow text other = IsUtf8 text × IsUtf8 other × (slice_cmp nat_cmp text other ≡ Less)
