-- What is kept, laid between the lines of a tree in the one style: the trail behind each line.
use Rattle.std.specs.Prelude.{ℕ, ◌+◌, ◌==◌, Bool, true, false, not, ◌&&◌, nat_le, min, List, [], ◌∷◌, ◌++◌, ◌||◌, Option, Some, None}
use Rattle.std.specs.Prelude.{encode_utf8_all, if◌then◌else◌}
use Rattle.yaml_grammar.specs.{Style.{plain_in_style, literal_in_style, feeds_at_end, long_key}, Trees.{Tree, text, sequence, mapping}}
use Rattle.{yaml_grammar.specs.Trees.{Elements, no_element, element, Members, no_member, member}, yaml_commented.specs.Trails.Extra}
use Rattle.yaml_commented.specs.{Trails.{empty_line, comment_line, Trail}, Commented.commented_text}
use Rattle.comments_kept.specs.{declared.scalars.Line.Line, Places.Mark}

-- ---- below a line of the tree

-- What may be below a line: each comment is after at most so many spaces; `filled` says that no empty line comes first.
pub record Below : Type 0 where
  pub most : ℕ
  pub filled : Bool

-- below a line that is no literal's header: as many spaces as the code can count
abbrev pub freely : Below
freely = record { most = 18446744073709551615; filled = false }

-- one more byte
abbrev pub line_after : Line → ℕ → Line
line_after l b =
    if b == 10 then record { last = l.blank; blank = true; fed = true }
    else record { last = l.last; blank = l.blank && b == 32; fed = false }

-- more bytes
abbrev pub line_behind : Line → List ℕ → Line
line_behind l [] = l
line_behind l (b ∷ bs) = line_behind (line_after l b) bs

-- the last line is blank
abbrev pub is_blank : Line → Bool
is_blank l = if l.fed then l.last else l.blank

-- the last line of a literal's body is blank
abbrev pub ends_blank : List ℕ → Bool
ends_blank bytes = is_blank (line_behind (record { last = true; blank = true; fed = true }) bytes)

-- Below a literal in a collection at the indentation i: an empty line directly behind a body `|+` would be its own, and
-- behind one whose last line is blank it would not be told from that line.
abbrev pub below_literal : ℕ → List ℕ → Below
below_literal i value = record {
  most = i;
  filled = not (nat_le (feeds_at_end value) 1) || ends_blank (encode_utf8_all value);
}

-- below a text as a value
abbrev pub below_scalar : ℕ → List ℕ → Below
below_scalar i value =
    if plain_in_style value then freely else if literal_in_style value then below_literal i value else freely

-- below a key, if it is long
abbrev pub below_key : List ℕ → List Below
below_key key = if long_key key then freely ∷ [] else []

abbrev mutual
  -- below the lines of an element, in a sequence at the indentation i
  pub below_element : Tree → ℕ → List Below
  below_element (text value) i = below_scalar i value ∷ []
  below_element (sequence no_element) i = freely ∷ []
  below_element (sequence (element t ts)) i = below_element t (i + 2) ++ below_elements ts (i + 2)
  below_element (mapping no_member) i = freely ∷ []
  below_element (mapping (member key t ms)) i = below_key key ++ below_value t (i + 2) ++ below_members ms (i + 2)

  -- below those of a value, with the line of its key if it begins below that, in a mapping at the indentation i
  pub below_value : Tree → ℕ → List Below
  below_value (text value) i = below_scalar i value ∷ []
  below_value (sequence no_element) i = freely ∷ []
  below_value (sequence (element t ts)) i = freely ∷ (below_element t (i + 2) ++ below_elements ts (i + 2))
  below_value (mapping no_member) i = freely ∷ []
  below_value (mapping (member key t ms)) i =
      freely ∷ (below_key key ++ below_value t (i + 2) ++ below_members ms (i + 2))

  -- below those of elements
  pub below_elements : Elements → ℕ → List Below
  below_elements no_element i = []
  below_elements (element t ts) i = below_element t i ++ below_elements ts i

  -- below those of members
  pub below_members : Members → ℕ → List Below
  below_members no_member i = []
  below_members (member key t ms) i = below_key key ++ below_value t i ++ below_members ms i

-- below those of a tree at the top
abbrev pub below_tree : Tree → List Below
below_tree (text value) = below_scalar 0 value ∷ []
below_tree (sequence no_element) = freely ∷ []
below_tree (sequence (element t ts)) = below_element t 0 ++ below_elements ts 0
below_tree (mapping no_member) = freely ∷ []
below_tree (mapping (member key t ms)) = below_key key ++ below_value t 0 ++ below_members ms 0

-- ---- what comes at a place

-- this is an empty line
abbrev pub is_empty : Option (List ℕ) → Bool
is_empty None = true
is_empty (Some comment) = false

-- what comes up to a place
abbrev pub marks_to : ℕ → List Mark → List Mark
marks_to place [] = []
marks_to place (m ∷ ms) = if nat_le m.place place then m ∷ marks_to place ms else []

-- what comes behind it
abbrev pub marks_after : ℕ → List Mark → List Mark
marks_after place [] = []
marks_after place (m ∷ ms) = if nat_le m.place place then marks_after place ms else m ∷ ms

-- without the empty lines that come first, up to a place
abbrev pub filled_from : ℕ → List Mark → List Mark
filled_from place [] = []
filled_from place (m ∷ ms) = if nat_le m.place place && is_empty m.text then filled_from place ms else m ∷ ms

-- a line of its own, after at most so many spaces if it is a comment
abbrev pub line_of : ℕ → ℕ → Option (List ℕ) → Extra
line_of most indent None = empty_line
line_of most indent (Some comment) = comment_line (min indent most) comment

-- such lines
abbrev pub lines_of : ℕ → List Mark → List Extra
lines_of most [] = []
lines_of most (m ∷ ms) = line_of most m.indent m.text ∷ lines_of most ms

-- the comment that comes first, if it is at this place
abbrev pub behind_of : ℕ → List Mark → Option (List ℕ)
behind_of place [] = None
behind_of place (m ∷ ms) = if m.place == place then m.text else None

-- what is left without it
abbrev pub after_behind : ℕ → List Mark → List Mark
after_behind place [] = []
after_behind place (m ∷ ms) = if m.place == place && not (is_empty m.text) then ms else m ∷ ms

-- ---- trails

-- what is still to come, and the place above the next line
pub record Coming : Type 0 where
  pub place : ℕ
  pub marks : List Mark

-- without the empty lines that come first, if they are left out
abbrev pub filled_if : Bool → ℕ → List Mark → List Mark
filled_if filled place ms = if filled then filled_from place ms else ms

-- what comes below the next line
abbrev pub coming_below : Below → Coming → List Mark
coming_below b s = filled_if b.filled (s.place + 2) (after_behind (s.place + 1) s.marks)

-- the trail of that line
abbrev pub trail_at : Below → Coming → Trail
trail_at b s = record {
  behind = behind_of (s.place + 1) s.marks;
  lines = lines_of b.most (marks_to (s.place + 2) (coming_below b s));
}

-- what is to come behind it
abbrev pub next : Below → Coming → Coming
next b s = record { place = s.place + 2; marks = marks_after (s.place + 2) (coming_below b s) }

-- the trails of lines
abbrev pub trails_at : List Below → Coming → List Trail
trails_at [] s = []
trails_at (b ∷ bs) s = trail_at b s ∷ trails_at bs (next b s)

-- what is to come behind them
abbrev pub behind_all : List Below → Coming → Coming
behind_all [] s = s
behind_all (b ∷ bs) s = behind_all bs (next b s)

-- ---- the whole text

-- the lines before the tree: no empty one comes first
abbrev pub lead_of : List Mark → List Extra
lead_of ms = lines_of freely.most (marks_to 0 (filled_from 0 ms))

-- what is to come behind them
abbrev pub behind_lead : List Mark → Coming
behind_lead ms = record { place = 0; marks = marks_after 0 (filled_from 0 ms) }

-- what has no place in the tree
abbrev pub left_over : Tree → List Mark → List Mark
left_over t ms = (behind_all (below_tree t) (behind_lead ms)).marks

-- the text of a tree with what is kept
abbrev pub woven_text : Tree → List Mark → List ℕ
woven_text t ms = commented_text (lead_of ms) t (trails_at (below_tree t) (behind_lead ms))
