-- A presentation of each tree in the one style: which productions its text is made by.
use Rattle.std.specs.Prelude.{ℕ, zero, suc, ◌+◌, ◌/◌, ◌%◌, Bool, true, false, ◌||◌, nat_le, ◌==◌, List, [], ◌∷◌, Some, None, replicate}
use Rattle.std.specs.Prelude.{if◌then◌else◌}
use Rattle.yaml_recognizers.proofs.Prelude.{in_range, lf, LineEnd, Sep, inline, lines, QuotedChar, raw, escape, number, plain, double, Flow}
use Rattle.yaml_recognizers.proofs.Prelude.{scalar, seq, map, none, Chomping, strip, clip, keep, BlockEmptyLine, TextLine, BlockScalar}
use Rattle.yaml_recognizers.proofs.Prelude.{Node, block, flow, items, pairs, Items, item, item_and, Pairs, pair, pair_and, Pair, asked}
use Rattle.yaml_recognizers.proofs.Prelude.{keyed, Indented, compact_items, compact_pairs, node, Stream, bare, explicit, content, suffixes}
use Rattle.yaml_recognizers.proofs.Prelude.{Tree, text, sequence, mapping, Elements, no_element, element, Members, no_member, member, shown}
use Rattle.yaml_recognizers.proofs.Prelude.{plain_in_style, literal_in_style, hex, letter_escape, feeds_at_end, long_key}

-- the end of a line without a comment
abbrev pub feed : LineEnd
feed = record { blank = []; comment = None; stop = Some lf }

-- a separation of one space
abbrev pub one_space : Sep
one_space = inline (32 ∷ [])

-- ---- scalars

-- a character between double quotes, as it is written
abbrev pub item_of : ℕ → QuotedChar
item_of c =
    if (c == 34) || (c == 92) then escape c
    else if shown c then raw c
    else if (c == 0) || in_range 7 13 c || (c == 27) then escape (letter_escape c)
    else if nat_le c 0xff then number 120 (hex (c / 16) ∷ hex (c % 16) ∷ [])
    else number 117 (hex (c / 4096) ∷ hex (c / 256 % 16) ∷ hex (c / 16 % 16) ∷ hex (c % 16) ∷ [])

-- the characters of a text, as they are written
abbrev pub items_of_text : List ℕ → List QuotedChar
items_of_text [] = []
items_of_text (c ∷ cs) = item_of c ∷ items_of_text cs

-- what a scalar on one line is
abbrev pub word_flow : List ℕ → Flow
word_flow value = scalar (if plain_in_style value then plain value [] else double (items_of_text value) [])

-- ---- literals: their text lines, and the empty lines after each

-- so many empty lines without spaces
abbrev pub bare_empties : ℕ → List BlockEmptyLine
bare_empties n = replicate n (record { width = 0; stop = lf })

-- a text line with so many empty lines after it
abbrev pub line_with : List ℕ → ℕ → TextLine
line_with held empties = record { text = held; stop = Some lf; empties = bare_empties empties }

-- up to the line's end
abbrev pub held_by : List ℕ → List ℕ
held_by [] = []
held_by (c ∷ cs) = if c == 10 then [] else c ∷ held_by cs

-- how many empty lines come first; fresh: here a line begins, else they come after the line that ends next
abbrev pub empties_in : Bool → List ℕ → ℕ
empties_in fresh [] = 0
empties_in fresh (c ∷ cs) =
    if c == 10 then (if fresh then suc (empties_in true cs) else empties_in true cs)
    else (if fresh then 0 else empties_in false cs)

-- the text lines that begin from here on
abbrev pub lines_in : Bool → List ℕ → List TextLine
lines_in fresh [] = []
lines_in fresh (c ∷ cs) =
    if c == 10 then lines_in true cs
    else (if fresh then line_with (c ∷ held_by cs) (empties_in false cs) ∷ lines_in false cs else lines_in false cs)

-- the chomping for so many line feeds at the end
abbrev pub chomping_of : ℕ → Chomping
chomping_of zero = strip
chomping_of (suc zero) = clip
chomping_of (suc (suc n)) = keep

-- a literal whose lines come after j spaces
abbrev pub literal_block : ℕ → List ℕ → BlockScalar
literal_block j value =
    record {
      header = record { folded = false; digit = None; chomping = chomping_of (feeds_at_end value); digit_last = false; line_end = feed };
      body = record { indent = j; empties = []; texts = lines_in true value };
      trail = [];
    }

-- a scalar, after this separation
abbrev pub scalar_node : Sep → ℕ → List ℕ → Node
scalar_node sep j value =
    if plain_in_style value then flow sep (scalar (plain value [])) (feed ∷ [])
    else if literal_in_style value then block sep (literal_block j value)
    else flow sep (scalar (double (items_of_text value) [])) (feed ∷ [])

-- ---- keys

-- a key with its value
abbrev pub pair_of : List ℕ → Node → Pair
pair_of key value =
    if long_key key then asked (node (flow one_space (word_flow key) (feed ∷ []))) (node value)
    else keyed (word_flow key) [] value

-- ---- trees

-- `[]`
abbrev pub empty_sequence : Sep → Node
empty_sequence sep = flow sep (seq None none) (feed ∷ [])

-- `{}`
abbrev pub empty_mapping : Sep → Node
empty_mapping sep = flow sep (map None none) (feed ∷ [])

abbrev mutual
  -- an element after its `-`, in a sequence at the indentation i
  pub element_of : Tree → ℕ → Indented
  element_of (text value) i = node (scalar_node one_space (i + 2) value)
  element_of (sequence no_element) i = node (empty_sequence one_space)
  element_of (sequence (element t ts)) i = compact_items 1 (items_from (element_of t (i + 2)) ts (i + 2))
  element_of (mapping no_member) i = node (empty_mapping one_space)
  element_of (mapping (member key t ms)) i = compact_pairs 1 (pairs_from (pair_of key (value_of t (i + 2))) ms (i + 2))

  -- a value after its `:`, in a mapping at the indentation i
  pub value_of : Tree → ℕ → Node
  value_of (text value) i = scalar_node one_space (i + 2) value
  value_of (sequence no_element) i = empty_sequence one_space
  value_of (sequence (element t ts)) i = items (feed ∷ []) (i + 2) (items_from (element_of t (i + 2)) ts (i + 2))
  value_of (mapping no_member) i = empty_mapping one_space
  value_of (mapping (member key t ms)) i = pairs (feed ∷ []) (i + 2) (pairs_from (pair_of key (value_of t (i + 2))) ms (i + 2))

  -- an item, and further elements
  pub items_from : Indented → Elements → ℕ → Items
  items_from one no_element i = item one
  items_from one (element t ts) i = item_and one (items_from (element_of t i) ts i)

  -- a pair, and further members
  pub pairs_from : Pair → Members → ℕ → Pairs
  pairs_from one no_member i = pair one
  pairs_from one (member key t ms) i = pair_and one (pairs_from (pair_of key (value_of t i)) ms i)

-- where a tree begins: at the start of the text, or after a line of `---`
pub data Place : Type 0 where
  at_start after_marker : Place

-- the separation of a node at the top
abbrev pub place_sep : Place → Sep
place_sep at_start = inline []
place_sep after_marker = lines (feed ∷ []) []

-- the comments before a collection at the top
abbrev pub place_comments : Place → List LineEnd
place_comments at_start = []
place_comments after_marker = feed ∷ []

-- a tree at the top of a document
abbrev pub top_node : Place → Tree → Node
top_node place (text value) = scalar_node (place_sep place) 2 value
top_node place (sequence no_element) = empty_sequence (place_sep place)
top_node place (sequence (element t ts)) = items (place_comments place) 0 (items_from (element_of t 0) ts 0)
top_node place (mapping no_member) = empty_mapping (place_sep place)
top_node place (mapping (member key t ms)) = pairs (place_comments place) 0 (pairs_from (pair_of key (value_of t 0)) ms 0)

-- the tree alone
abbrev pub presentation_of : Tree → Stream
presentation_of t = record { mark = false; prefix = []; document = Some (bare (top_node at_start t)); parts = [] }

-- the tree between `---` and `...`
abbrev pub framed_presentation_of : Tree → Stream
framed_presentation_of t =
    record {
      mark = false;
      prefix = [];
      document = Some (explicit (content (top_node after_marker t)));
      parts = suffixes (feed ∷ []) [] [] None ∷ [];
    }
