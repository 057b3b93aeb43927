-- A presentation of each tree with comments: that of the one style, in which the ends of lines have comments.
use Rattle.std.specs.Prelude.{ℕ, suc, ◌+◌, true, false, List, [], ◌∷◌, ◌++◌, Option, Some, None, if◌then◌else◌}
use Rattle.yaml_grammar.specs.{Texts.spaces, Separation.{lf, LineEnd, Sep, inline}, FlowScalars.{plain, double}, FlowNodes.{scalar, seq}}
use Rattle.yaml_grammar.specs.{FlowNodes.{map as flow_map, none}, BlockScalars.{TextLine, BlockScalar}, BlockNodes.{Node, block, flow}}
use Rattle.yaml_grammar.specs.BlockNodes.{items, pairs, Items, item, item_and, Pairs, pair, pair_and, Pair, asked, keyed, Indented}
use Rattle.yaml_grammar.specs.{BlockNodes.{compact_items, compact_pairs, node}, Streams.{Stream, bare}, Trees.{Tree, text, sequence}}
use Rattle.yaml_grammar.specs.{Trees.{mapping, Elements, no_element, element, Members, no_member, member}, Style.plain_in_style}
use Rattle.{yaml_grammar.specs.Style.{literal_in_style, feeds_at_end, long_key}, yaml_recognizers.proofs.OneStyle.Presented.feed}
use Rattle.yaml_recognizers.proofs.OneStyle.Presented.{one_space, items_of_text, word_flow, bare_empties, lines_in, chomping_of}
use Rattle.yaml_commented.specs.{Trails.{Extra, empty_line, comment_line, Trail}, Commented.{next_trail, later_trails, after_key}}
use Rattle.yaml_commented.specs.Commented.{after_tree, after_value}

-- ---- ends of lines

-- the end of a line, with its comment
abbrev pub line_end : Option (List ℕ) → LineEnd
line_end None = feed
line_end (Some comment) = record { blank = 32 ∷ []; comment = Some comment; stop = Some lf }

-- a line of its own
abbrev pub extra_line : Extra → LineEnd
extra_line empty_line = feed
extra_line (comment_line n comment) = record { blank = spaces n; comment = Some comment; stop = Some lf }

-- such lines
abbrev pub extra_lines : List Extra → List LineEnd
extra_lines [] = []
extra_lines (x ∷ xs) = extra_line x ∷ extra_lines xs

-- what is behind a line
abbrev pub ends : Trail → List LineEnd
ends w = line_end w.behind ∷ extra_lines w.lines

-- ---- literals: empty lines directly behind a literal belong to its last text line

-- how many empty lines come first
abbrev pub empties_first : List Extra → ℕ
empties_first (empty_line ∷ xs) = suc (empties_first xs)
empties_first _ = 0

-- the lines after those
abbrev pub past_empties : List Extra → List Extra
past_empties (empty_line ∷ xs) = past_empties xs
past_empties xs = xs

-- so many empty lines more after the last of the text lines
abbrev pub with_empties : ℕ → List TextLine → List TextLine
with_empties n [] = []
with_empties n (l ∷ []) = record l { empties = l.empties ++ bare_empties n } ∷ []
with_empties n (l ∷ (m ∷ ms)) = l ∷ with_empties n (m ∷ ms)

-- a literal whose lines come after j spaces
abbrev pub literal_block : ℕ → List ℕ → Trail → BlockScalar
literal_block j value w =
    record {
      header = record {
        folded = false;
        digit = None;
        chomping = chomping_of (feeds_at_end value);
        digit_last = false;
        line_end = line_end w.behind;
      };
      body = record { indent = j; empties = []; texts = with_empties (empties_first w.lines) (lines_in true value) };
      trail = extra_lines (past_empties w.lines);
    }

-- ---- scalars, keys and empty collections

-- a scalar, after this separation
abbrev pub scalar_node : Sep → ℕ → List ℕ → Trail → Node
scalar_node sep j value w =
    if plain_in_style value then flow sep (scalar (plain value [])) (ends w)
    else if literal_in_style value then block sep (literal_block j value w)
    else flow sep (scalar (double (items_of_text value) [])) (ends w)

-- a key with its value; the trail is that of a long key's line
abbrev pub pair_of : List ℕ → Trail → Node → Pair
pair_of key w value =
    if long_key key then asked (node (flow one_space (word_flow key) (ends w))) (node value)
    else keyed (word_flow key) [] value

-- `[]`
abbrev pub empty_sequence : Sep → Trail → Node
empty_sequence sep w = flow sep (seq None none) (ends w)

-- `{}`
abbrev pub empty_mapping : Sep → Trail → Node
empty_mapping sep w = flow sep (flow_map None none) (ends w)

-- ---- trees

abbrev mutual
  -- an element after its `-`, in a sequence at the indentation i
  pub element_of : Tree → ℕ → List Trail → Indented
  element_of (text value) i ws = node (scalar_node one_space (i + 2) value (next_trail ws))
  element_of (sequence no_element) i ws = node (empty_sequence one_space (next_trail ws))
  element_of (sequence (element t ts)) i ws =
      compact_items 1 (items_from (element_of t (i + 2) ws) ts (i + 2) (after_tree t ws))
  element_of (mapping no_member) i ws = node (empty_mapping one_space (next_trail ws))
  element_of (mapping (member key t ms)) i ws =
      compact_pairs 1 (pairs_from (pair_of key (next_trail ws) (value_of t (i + 2) (after_key key ws))) ms (i + 2)
      (after_value t (after_key key ws)))

  -- a value after its `:`, in a mapping at the indentation i
  pub value_of : Tree → ℕ → List Trail → Node
  value_of (text value) i ws = scalar_node one_space (i + 2) value (next_trail ws)
  value_of (sequence no_element) i ws = empty_sequence one_space (next_trail ws)
  value_of (sequence (element t ts)) i ws =
      items (ends (next_trail ws)) (i + 2) (items_from (element_of t (i + 2) (later_trails ws)) ts (i + 2)
      (after_tree t (later_trails ws)))
  value_of (mapping no_member) i ws = empty_mapping one_space (next_trail ws)
  value_of (mapping (member key t ms)) i ws =
      pairs (ends (next_trail ws)) (i + 2)
      (pairs_from (pair_of key (next_trail (later_trails ws)) (value_of t (i + 2) (after_key key (later_trails ws)))) ms
      (i + 2) (after_value t (after_key key (later_trails ws))))

  -- an item, and further elements
  pub items_from : Indented → Elements → ℕ → List Trail → Items
  items_from one no_element i ws = item one
  items_from one (element t ts) i ws = item_and one (items_from (element_of t i ws) ts i (after_tree t ws))

  -- a pair, and further members
  pub pairs_from : Pair → Members → ℕ → List Trail → Pairs
  pairs_from one no_member i ws = pair one
  pairs_from one (member key t ms) i ws =
      pair_and one (pairs_from (pair_of key (next_trail ws) (value_of t i (after_key key ws))) ms i
      (after_value t (after_key key ws)))

-- a tree at the top
abbrev pub top_node : Tree → List Trail → Node
top_node (text value) ws = scalar_node (inline []) 2 value (next_trail ws)
top_node (sequence no_element) ws = empty_sequence (inline []) (next_trail ws)
top_node (sequence (element t ts)) ws = items [] 0 (items_from (element_of t 0 ws) ts 0 (after_tree t ws))
top_node (mapping no_member) ws = empty_mapping (inline []) (next_trail ws)
top_node (mapping (member key t ms)) ws =
    pairs [] 0 (pairs_from (pair_of key (next_trail ws) (value_of t 0 (after_key key ws))) ms 0
    (after_value t (after_key key ws)))

-- the tree after these lines
abbrev pub presentation_of : List Extra → Tree → List Trail → Stream
presentation_of lead t ws =
    record { mark = false; prefix = extra_lines lead; document = Some (bare (top_node t ws)); parts = [] }
