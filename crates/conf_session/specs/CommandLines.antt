-- Commands that are spelled one key a line. Each text is ASCII, and so its bytes are its characters.
use Rattle.std.specs.Prelude.{◌≡◌, ◌≢◌, ◌⊎◌, ℕ, Bool, true, false, not, ◌&&◌, List, [], ◌∷◌, ◌++◌, codes, flat_map, length, get_or, ◌<◌}
use Rattle.std.specs.Prelude.{◌==◌, if◌then◌else◌, Option, Some}
use Rattle.conf_session.specs.Prelude.{list_all, double_quote, line_feed, first, spaces, plain_in_style, long_key, text, sequence, mapping}
use Rattle.conf_session.specs.Prelude.{Elements, no_element, element, Members, no_member, member, Tree, has_key, members_distinct}
use Rattle.conf_session.specs.{Prelude.{Condition, IsAbout}, Said.{Part, part_from, part_of, Said, single_part, batch_of_parts}}
use Rattle.conf_session.specs.{Said.{conditional, noted_said, command_said, change_said, said_by, Says}, SaidConditions.condition_in}
use Rattle.{conf_session.specs.SaidConditions.conditions_in, yaml_chars.specs.{Classes.{in_range, is_in, indicator}, Signs.single_quote}}
use Rattle.{yaml_chars.specs.Signs.{colon, number_sign, space_char}, yaml_grammar.specs.FlowScalars.single_text}
use Rattle.yaml_writer.specs.Runs.{stands_alone}

-- how a text is spelled after its key: as it is, a word or several; between double quotes, or between single ones
pub data Spelling : Type 0 where
  bare phrase quoted single_quoted : Spelling

-- a key with its text, on one line
pub record Line : Type 0 where
  pub key : List ℕ
  pub spelling : Spelling
  pub value : List ℕ

-- the text as it is spelled; between single quotes each of these is doubled
abbrev pub spelled : Spelling → List ℕ → List ℕ
spelled bare value = value
spelled phrase value = value
spelled quoted value = double_quote ∷ (value ++ double_quote ∷ [])
spelled single_quoted value = single_quote ∷ (flat_map single_text value ++ single_quote ∷ [])

-- an ASCII character that is not whitespace, `:` or `#`
abbrev pub bare_char : ℕ → Bool
bare_char c = in_range 33 126 c && not (is_in c (codes ":#"))

-- it begins with no indicator
abbrev pub begins_bare : List ℕ → Bool
begins_bare value = first (λ c. not (indicator c)) value

-- A printable ASCII character between this one before it and what follows. A `:` stands before a word, and a `#` in one.
abbrev pub may_stand : ℕ → ℕ → List ℕ → Bool
may_stand before c after =
    in_range 32 126 c
    && (if c == colon then first (in_range 33 126) after else (if c == number_sign then not (before == space_char) else true))

-- characters after this one, of which the last is no space
abbrev pub goes_on : ℕ → List ℕ → Bool
goes_on before [] = not (before == space_char)
goes_on before (c ∷ cs) = may_stand before c cs && goes_on c cs

-- words with spaces between them, the first of which begins with no indicator
abbrev pub is_phrase : List ℕ → Bool
is_phrase [] = false
is_phrase (c ∷ cs) = not (indicator c) && in_range 33 126 c && goes_on c cs

-- the text may be spelled so
abbrev pub stands : Spelling → List ℕ → Bool
stands bare value = begins_bare value && list_all bare_char value
stands phrase value = is_phrase value
stands quoted value = list_all stands_alone value
stands single_quoted value = list_all stands_alone value

-- the text stands before the first such quote, and the rest behind it
pub record IsBefore (quoted : List ℕ) (quote : ℕ) (value rest : List ℕ) : Type 0 where
  pub stands : list_all stands_alone value ≡ true
  pub none : (i : ℕ) → i < length value → get_or value i 0 ≢ quote
  pub is : quoted ≡ value ++ quote ∷ rest

-- a text is spelled as the line
pub record IsSpelled (line value : List ℕ) : Type 0 where
  pub spelling : Spelling
  pub stands : stands spelling value ≡ true
  pub is : line ≡ spelled spelling value

-- the lines begin with a line of the key, which has its `: ` and the spaces before it, and a text, and the rest follows
pub record IsField (lines key value rest : List ℕ) : Type 0 where
  pub spelling : Spelling
  pub stands : stands spelling value ≡ true
  pub is : lines ≡ key ++ (spelled spelling value ++ line_feed ∷ rest)

-- ---- mappings of such lines

-- a line, with its line feed
abbrev pub line_text : Line → List ℕ
line_text l = l.key ++ (codes ": " ++ (spelled l.spelling l.value ++ codes "\n"))

-- lines at an indentation, one after another; the first is without its spaces
abbrev pub lines_text : ℕ → Line → List Line → List ℕ
lines_text indent l [] = line_text l
lines_text indent l (m ∷ ms) = line_text l ++ (spaces indent ++ lines_text indent m ms)

-- the members that the lines hold
abbrev pub members_of_lines : List Line → Members
members_of_lines [] = no_member
members_of_lines (l ∷ ls) = member l.key (text l.value) (members_of_lines ls)

-- the key is a short word, and the text may be spelled so
pub record IsLine (l : Line) : Type 0 where
  pub word : plain_in_style l.key ≡ true
  pub short : long_key l.key ≡ false
  pub stands : stands l.spelling l.value ≡ true

-- each of them is such a line
abbrev pub AreLines : List Line → Type 0
AreLines [] = Unit {0}
AreLines (l ∷ ls) = IsLine l × AreLines ls

-- a mapping by its lines, of which there is one at least
pub record Entry : Type 0 where
  pub first : Line
  pub more : List Line

-- its lines at an indentation; the first is without its spaces
abbrev pub entry_text : ℕ → Entry → List ℕ
entry_text indent e = lines_text indent e.first e.more

abbrev pub entry_members : Entry → Members
entry_members e = members_of_lines (e.first ∷ e.more)

-- no two keys are the same
pub record IsEntry (e : Entry) : Type 0 where
  pub are : AreLines (e.first ∷ e.more)
  pub differ : members_distinct (entry_members e) ≡ true

-- ---- elements of a list, as the one style has them: after `  - `, and further keys after four spaces

abbrev pub elements_text : List Entry → List ℕ
elements_text [] = []
elements_text (e ∷ es) = codes "  - " ++ (entry_text 4 e ++ elements_text es)

abbrev pub elements_of_entries : List Entry → Elements
elements_of_entries [] = no_element
elements_of_entries (e ∷ es) = element (mapping (entry_members e)) (elements_of_entries es)

abbrev pub AreEntries : List Entry → Type 0
AreEntries [] = Unit {0}
AreEntries (e ∷ es) = IsEntry e × AreEntries es

-- what the elements are, each by its mapping, in order
abbrev pub AreSaid : {A : Type 0} → (Tree → Option A) → List Entry → List A → Type 0
AreSaid read [] [] = Unit {0}
AreSaid read [] (x ∷ xs) = ⊥
AreSaid read (e ∷ es) [] = ⊥
AreSaid read (e ∷ es) (x ∷ xs) = IsEntry e × (read (mapping (entry_members e)) ≡ Some x) × AreSaid read es xs

-- the lines begin with elements that are read as these, in order
pub record AreElementLines {A : Type 0} (read : Tree → Option A) (lines : List ℕ) (xs : List A) (rest : List ℕ)
    : Type 0 where
  pub entries : List Entry
  pub said : AreSaid read entries xs
  pub is : lines ≡ elements_text entries ++ rest

-- ---- lines of a mapping under a key, as the one style has them: each after two spaces

abbrev pub inner_text : List Line → List ℕ
inner_text [] = []
inner_text (l ∷ ls) = codes "  " ++ (line_text l ++ inner_text ls)

-- the lines begin with such a line of this key and this text, and the rest follows
pub record IsPairLine (lines key value rest : List ℕ) : Type 0 where
  pub spelling : Spelling
  pub good : IsLine (record { key = key; spelling = spelling; value = value })
  pub is : lines ≡ codes "  " ++ (line_text (record { key = key; spelling = spelling; value = value }) ++ rest)

-- they begin with the lines of these members, and the rest follows
pub record ArePairLines (lines : List ℕ) (ms : Members) (rest : List ℕ) : Type 0 where
  pub own : List Line
  pub are : AreLines own
  pub is : lines ≡ inner_text own ++ rest
  pub says : ms ≡ members_of_lines own

-- an about under its key, and the closing line
pub record IsAboutLines (lines : List ℕ) (about : Tree) : Type 0 where
  pub entry : Entry
  pub are : AreLines (entry.first ∷ entry.more)
  pub is : lines ≡ codes "about:\n" ++ (inner_text (entry.first ∷ entry.more) ++ codes "...\n")
  pub says : about ≡ mapping (entry_members entry)
  pub good : IsAbout about

-- ---- parts

-- the mapping says this part: in a batch, as a whole command, and after conditions; it has no about
pub record SaysPart (e : Entry) (part : Part) : Type 0 where
  pub is : IsEntry e
  pub within : part_from (entry_members e) ≡ Some part
  pub alone : command_said (entry_members e) ≡ single_part part
  pub change : change_said (entry_members e) ≡ single_part part
  pub apart : has_key (codes "if") (entry_members e) ≡ false
  pub no_about : has_key (codes "about") (entry_members e) ≡ false

-- the lines, at whatever indentation, are those of a mapping that says the part
pub record SpellsPart (lines : ℕ → List ℕ) (part : Part) : Type 0 where
  pub entry : Entry
  pub says : SaysPart entry part
  pub is : (indent : ℕ) → lines indent ≡ entry_text indent entry

-- the lines begin with the parts as elements of a batch, in order
abbrev pub ArePartLines : List ℕ → List Part → List ℕ → Type 0
ArePartLines lines parts rest = AreElementLines part_of lines parts rest

-- they begin with a part at the margin, and the rest follows
pub record IsPartLines (lines : List ℕ) (part : Part) (rest : List ℕ) : Type 0 where
  pub own : ℕ → List ℕ
  pub spells : SpellsPart own part
  pub is : lines ≡ own 0 ++ rest

-- ---- conditions

-- the lines begin with the conditions as elements of a list, in order
abbrev pub AreConditionLines : List ℕ → List Condition → List ℕ → Type 0
AreConditionLines lines conditions rest = AreElementLines condition_in lines conditions rest

-- they begin with this condition
abbrev pub IsConditionLines : List ℕ → Condition → List ℕ → Type 0
IsConditionLines lines condition rest = AreConditionLines lines (condition ∷ []) rest

-- ---- commands

-- a pair at the margin: a line; a key and a list of mappings under it, of which there is one at least; or a key and a
-- mapping under it
pub data Row : Type 0 where
  one_line : Line → Row
  list_under : List ℕ → Entry → List Entry → Row
  pairs_under : List ℕ → Entry → Row

abbrev pub row_text : Row → List ℕ
row_text (one_line l) = line_text l
row_text (list_under key e es) = key ++ (codes ":\n" ++ elements_text (e ∷ es))
row_text (pairs_under key e) = key ++ (codes ":\n" ++ inner_text (e.first ∷ e.more))

abbrev pub rows_text : List Row → List ℕ
rows_text [] = []
rows_text (r ∷ rs) = row_text r ++ rows_text rs

abbrev pub row_key : Row → List ℕ
row_key (one_line l) = l.key
row_key (list_under key e es) = key
row_key (pairs_under key e) = key

abbrev pub row_tree : Row → Tree
row_tree (one_line l) = text l.value
row_tree (list_under key e es) = sequence (elements_of_entries (e ∷ es))
row_tree (pairs_under key e) = mapping (entry_members e)

abbrev pub members_of_rows : List Row → Members
members_of_rows [] = no_member
members_of_rows (r ∷ rs) = member (row_key r) (row_tree r) (members_of_rows rs)

-- a short word
pub record IsKey (key : List ℕ) : Type 0 where
  pub word : plain_in_style key ≡ true
  pub short : long_key key ≡ false

abbrev pub IsRow : Row → Type 0
IsRow (one_line l) = IsLine l
IsRow (list_under key e es) = IsKey key × AreEntries (e ∷ es)
IsRow (pairs_under key e) = IsKey key × AreLines (e.first ∷ e.more)

abbrev pub AreRows : List Row → Type 0
AreRows [] = Unit {0}
AreRows (r ∷ rs) = IsRow r × AreRows rs

-- the pairs of a command at the margin, of which there is one at least
pub record Layout : Type 0 where
  pub first : Row
  pub more : List Row

abbrev pub layout_text : Layout → List ℕ
layout_text layout = rows_text (layout.first ∷ layout.more)

abbrev pub layout_members : Layout → Members
layout_members layout = members_of_rows (layout.first ∷ layout.more)

-- no two keys are the same, neither here nor in what is under them
pub record IsLayout (layout : Layout) : Type 0 where
  pub are : AreRows (layout.first ∷ layout.more)
  pub differ : members_distinct (layout_members layout) ≡ true

-- the lines of a command and the closing line, and what their mapping says
pub record IsCommandLines (lines : List ℕ) (said : Said) : Type 0 where
  pub layout : Layout
  pub are : IsLayout layout
  pub is : lines ≡ layout_text layout ++ codes "...\n"
  pub says : said ≡ said_by (mapping (layout_members layout))

-- they are those of a command without conditions that changes configurations, and say the same after conditions
pub record IsChangeLines (lines : List ℕ) (said : Said) : Type 0 where
  pub command : IsCommandLines lines said
  pub apart : has_key (codes "if") (layout_members command.layout) ≡ false
  pub after : (t : Tree) (conditions : List Condition) → conditions_in t ≡ Some conditions
      → conditional conditions said ≡ said_by (mapping (member (codes "if") t (layout_members command.layout)))

-- there are conditions, and the lines are those of a command that says this after them
pub record SayChangeAfter (conditions : List Condition) (lines : List ℕ) (said : Said) : Type 0 where
  pub change : Said
  pub command : IsChangeLines lines change
  pub says : said ≡ conditional conditions change
  pub some : conditions ≢ []

-- what is behind the lines of a change: the closing line, and it is all that is said; or an about before it
abbrev pub EndsChange : List ℕ → Said → Said → Type 0
EndsChange rest change said =
    ((rest ≡ codes "...\n") × (said ≡ change))
    ⊎ ((about : Tree) × IsAboutLines rest about × (said ≡ noted_said about change))

-- there are parts of a batch, and the rest is behind its lines
abbrev pub SaysBatch : List Part → List ℕ → Said → Type 0
SaysBatch parts rest said = (parts ≢ []) × EndsChange rest (batch_of_parts parts) said

-- the piece is a change and this rest: it says what they do
abbrev pub SaysBefore : List ℕ → Said → List ℕ → Type 0
SaysBefore piece change rest = (said : Said) → EndsChange rest change said → Says piece said
