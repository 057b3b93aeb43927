-- What a difference chooses. Each choice makes the second tree of the first: these are made so that the edits are few.
use Rattle.std.specs.Prelude.{ℕ, zero, suc, ◌+◌, ◌-◌, nat_lt, ◌&&◌, Bool, true, false, if◌then◌else◌, List}
use Rattle.tree_diff.specs.Prelude.{Tree, text, sequence, mapping, Elements, no_element, element, Members, no_member, member, same_text}

-- ---- where a longer sequence loses elements: before those at its end that a shorter one has too

-- how many elements there are
abbrev pub count : Elements → ℕ
count no_element = 0
count (element t ts) = suc (count ts)

-- the elements from an index on
abbrev pub drop_elements : ℕ → Elements → Elements
drop_elements zero ts = ts
drop_elements (suc n) no_element = no_element
drop_elements (suc n) (element t ts) = drop_elements n ts

abbrev mutual
  -- the two trees are equal, and no deeper than a limit
  pub same_within : ℕ → Tree → Tree → Bool
  same_within limit (text value) (text other) = same_text value other
  same_within limit (text value) (sequence us) = false
  same_within limit (text value) (mapping ns) = false
  same_within limit (sequence ts) (text other) = false
  same_within limit (sequence ts) (sequence us) = nat_lt 0 limit && same_elements (limit - 1) ts us
  same_within limit (sequence ts) (mapping ns) = false
  same_within limit (mapping ms) (text other) = false
  same_within limit (mapping ms) (sequence us) = false
  same_within limit (mapping ms) (mapping ns) = nat_lt 0 limit && same_members (limit - 1) ms ns

  -- the same of elements
  pub same_elements : ℕ → Elements → Elements → Bool
  same_elements limit no_element no_element = true
  same_elements limit no_element (element u us) = false
  same_elements limit (element t ts) no_element = false
  same_elements limit (element t ts) (element u us) = same_within limit t u && same_elements limit ts us

  -- the same of members
  pub same_members : ℕ → Members → Members → Bool
  same_members limit no_member no_member = true
  same_members limit no_member (member other u ns) = false
  same_members limit (member key t ms) no_member = false
  same_members limit (member key t ms) (member other u ns) =
      same_text key other && same_within limit t u && same_members limit ms ns

-- how many elements at the end are the same, where so many before these are
abbrev pub same_at_end : ℕ → Elements → Elements → ℕ
same_at_end run no_element us = run
same_at_end run (element t ts) no_element = run
same_at_end run (element t ts) (element u us) = same_at_end (if same_within 8 t u then run + 1 else 0) ts us

-- how many elements of the second sequence come before those that the longer first one has at its end too
abbrev pub before_end : Elements → Elements → ℕ
before_end ts us =
    if nat_lt (count us) (count ts) then count us - same_at_end 0 (drop_elements (count ts - count us) ts) us else 0

-- ---- where a mapping is set whole

-- how many members there are
abbrev pub member_count : Members → ℕ
member_count no_member = 0
member_count (member key t ms) = suc (member_count ms)

-- the first member has this key
abbrev pub begins_with : List ℕ → Members → Bool
begins_with key no_member = false
begins_with key (member other t ms) = same_text key other

-- the members after the first
abbrev pub after_first : Members → Members
after_first no_member = no_member
after_first (member key t ms) = ms

-- how many members of the first mapping stay: each key is the next one of the second mapping
abbrev pub kept : Members → Members → ℕ
kept no_member ns = 0
kept (member key t ms) ns = if begins_with key ns then suc (kept ms (after_first ns)) else kept ms ns

-- fewer members stay than are deleted, and some are new
abbrev pub is_set_whole : Members → Members → Bool
is_set_whole ms ns = nat_lt (kept ms ns) (member_count ms - kept ms ns) && nat_lt (kept ms ns) (member_count ns)
