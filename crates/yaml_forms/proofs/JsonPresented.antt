-- A presentation of each tree's JSON text: which productions of YAML it is made by.
use Rattle.std.specs.Prelude.{ℕ, ◌/◌, ◌%◌, false, ◌||◌, ◌==◌, List, [], ◌∷◌, Some, None, if◌then◌else◌}
use Rattle.yaml_forms.proofs.Prelude.{LineEnd, inline, QuotedChar, raw, escape, number, double, Flow, scalar, seq, map, Entries, none, last}
use Rattle.yaml_forms.proofs.Prelude.{next, Entry, entry, absent, given, flow, Stream, bare, Tree, text, sequence, mapping, Elements}
use Rattle.yaml_forms.{proofs.Prelude.{no_element, element, Members, no_member, member, shown, hex, letter_escape}, specs.Json.has_letter}

-- a character of a string, as it is written
abbrev pub item_of : ℕ → QuotedChar
item_of c =
    if (c == 34) || (c == 92) then escape c
    else if shown c then raw c
    else if has_letter c then escape (letter_escape c)
    else number 117 (hex (c / 4096) ∷ hex (c / 256 % 16) ∷ hex (c / 16 % 16) ∷ hex (c % 16) ∷ [])

-- the characters of a string, as they are written
abbrev pub items_of_text : List ℕ → List QuotedChar
items_of_text [] = []
items_of_text (c ∷ cs) = item_of c ∷ items_of_text cs

-- a string
abbrev pub string_flow : List ℕ → Flow
string_flow value = scalar (double (items_of_text value) [])

-- an element of an array
abbrev pub element_entry : Flow → Entry
element_entry f = entry None f absent

-- a member of an object
abbrev pub member_entry : List ℕ → Flow → Entry
member_entry key f = entry None (string_flow key) (given None None f)

abbrev mutual
  -- a tree
  pub json_flow : Tree → Flow
  json_flow (text value) = string_flow value
  json_flow (sequence no_element) = seq None none
  json_flow (sequence (element t ts)) = seq None (elements_from (element_entry (json_flow t)) ts)
  json_flow (mapping no_member) = map None none
  json_flow (mapping (member key t ms)) = map None (members_from (member_entry key (json_flow t)) ms)

  -- an element, and further ones
  pub elements_from : Entry → Elements → Entries
  elements_from one no_element = last one None
  elements_from one (element t ts) = next one None None (elements_from (element_entry (json_flow t)) ts)

  -- a member, and further ones
  pub members_from : Entry → Members → Entries
  members_from one no_member = last one None
  members_from one (member key t ms) = next one None None (members_from (member_entry key (json_flow t)) ms)

-- the tree, and the end of its line
abbrev pub presentation_of : List LineEnd → Tree → Stream
presentation_of line_end t =
    record { mark = false; prefix = []; document = Some (bare (flow (inline []) (json_flow t) line_end)); parts = [] }
