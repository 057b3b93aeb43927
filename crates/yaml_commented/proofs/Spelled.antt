-- The presentation of a tree with comments spells the tree's text with them.
use Rattle.std.{proofs.{Common.{◌≡◌, refl, sym, ◌∙◌, ap, append_assoc}, lemmas.{Bool.false≢true, List.append-nil}}, specs.Prelude.{ℕ, ◌+◌}}
use Rattle.std.specs.Prelude.{Bool, true, false, cond, List, [], ◌∷◌, ◌++◌, codes}
use Rattle.yaml_grammar.specs.{Texts.{is_empty, spaces}, Separation.{Sep, inline, sep_text, line_end_text, comments_text}}
use Rattle.yaml_grammar.specs.{FlowScalars.{plain, double}, FlowNodes.scalar, BlockScalars.{TextLine, text_lines_text, block_empties_text}}
use Rattle.yaml_grammar.specs.{BlockScalars.block_text, BlockNodes.{flow, block, Node, node_text, Indented, indented_text, items_text}}
use Rattle.yaml_grammar.specs.{BlockNodes.{Pair, pair_text, pairs_text, asked, keyed, node}, Trees.{Tree, text, sequence, mapping}}
use Rattle.yaml_grammar.specs.{Trees.{Elements, no_element, element, Members, no_member, member}, Streams.stream_text, Style.plain_in_style}
use Rattle.yaml_grammar.specs.Style.{literal_in_style, in_double_quotes, literal_mark, literal_lines, feeds_at_end, key_text, long_key}
use Rattle.yaml_recognizers.proofs.OneStyle.Presented.{one_space, items_of_text, word_flow, bare_empties, lines_in}
use Rattle.{yaml_recognizers.proofs.OneStyle.Spelled.{word_flow_spelled, two_more}, yaml_commented.specs.Trails.{Extra, Trail, end_text}}
use Rattle.yaml_commented.specs.{Trails.{extras_text, trail_text}, Commented.{next_trail, later_trails, after_key, after_tree, after_value}}
use Rattle.yaml_commented.specs.Commented.{scalar_with, key_with, element_with, value_with, elements_with, members_with, tree_with}
use Rattle.yaml_commented.{specs.Commented.commented_text, proofs.Presented.{line_end, extra_lines, ends, empties_first, past_empties}}
use Rattle.yaml_commented.proofs.Presented.{with_empties, literal_block, scalar_node, pair_of, element_of, value_of, items_from, pairs_from}
use Rattle.yaml_commented.proofs.{Presented.{top_node, presentation_of}, Scalars.{word_spelled, quoted_spelled, literal_filled}}
use Rattle.yaml_commented.proofs.{Scalars.{literal_lines_spelled, mark_spelled}, Extras.{end_spelled, extras_spelled, ends_spelled}}
use Rattle.yaml_commented.proofs.{Extras.empties_spelled, Literals.lines_more}

-- ---- literals

-- text lines, of which there is one, with more empty lines after them
filled_more : (q n : ℕ) (ls : List TextLine) → is_empty ls ≡ false
    → text_lines_text q (with_empties n ls) ≡ text_lines_text q ls ++ block_empties_text (bare_empties n)
filled_more q n [] h = absurd (false≢true (sym h))
filled_more q n (l ∷ ls) h = lines_more q n l ls

-- the lines of a literal and what is behind it, regrouped
literal_grouped : (header end lines empties rest : List ℕ)
    → ((header ++ end) ++ (lines ++ empties)) ++ rest ≡ ((header ++ end) ++ lines) ++ (empties ++ rest)
literal_grouped header end lines empties rest = simp append_assoc

-- a literal is spelled with what is behind it
literal_spelled : (i : ℕ) (value : List ℕ) (w : Trail) → plain_in_style value ≡ false → literal_in_style value ≡ true
    → block_text (literal_block (i + 2) value w)
    ≡ ((literal_mark (feeds_at_end value) ++ end_text w.behind) ++ literal_lines (i + 2) true value) ++ extras_text w.lines
literal_spelled i value w e f =
    ap (λ m. ((m ++ line_end_text (line_end w.behind))
    ++ text_lines_text (i + 2) (with_empties (empties_first w.lines) (lines_in true value)))
    ++ comments_text (extra_lines (past_empties w.lines))) (mark_spelled (feeds_at_end value))
    ∙ rw (
      end_spelled w.behind,
      filled_more (i + 2) (empties_first w.lines) (lines_in true value) (literal_filled value f),
      literal_lines_spelled i value e f,
      extras_spelled (past_empties w.lines),
      empties_spelled w.lines,
    ) (literal_grouped (literal_mark (feeds_at_end value)) (end_text w.behind) (literal_lines (i + 2) true value)
    (block_empties_text (bare_empties (empties_first w.lines))) (extras_text (past_empties w.lines)))

-- ---- scalars and keys

-- a scalar is spelled with what is behind it
scalar_spelled : (sep : Sep) (i : ℕ) (value : List ℕ) (w : Trail)
    → node_text (scalar_node sep (i + 2) value w) ≡ sep_text sep ++ scalar_with (i + 2) value w
scalar_spelled sep i value w = by (plain_in_style value) (literal_in_style value) refl refl
  where
    by : (p l : Bool) → plain_in_style value ≡ p → literal_in_style value ≡ l
        → node_text (cond p (flow sep (scalar (plain value [])) (ends w))
        (cond l (block sep (literal_block (i + 2) value w)) (flow sep (scalar (double (items_of_text value) [])) (ends w))))
        ≡ sep_text sep ++ cond p (value ++ trail_text w)
        (cond l (literal_mark (feeds_at_end value) ++ end_text w.behind ++ literal_lines (i + 2) true value
        ++ extras_text w.lines) (in_double_quotes value ++ trail_text w))
    by true l e f = rw (ends_spelled w) (ap (λ t. (sep_text sep ++ t) ++ trail_text w) (word_spelled value e)
        ∙ append_assoc (sep_text sep) value (trail_text w))
    by false true e f = ap (λ t. sep_text sep ++ t) (literal_spelled i value w e f)
    by false false e f = rw (ends_spelled w) (ap (λ t. (sep_text sep ++ t) ++ trail_text w) (quoted_spelled value e)
        ∙ append_assoc (sep_text sep) (in_double_quotes value) (trail_text w))

-- a pair spells the key's lines and its value
pub pair_spelled : (key : List ℕ) (ws : List Trail) (value : Node) (i : ℕ)
    → pair_text (pair_of key (next_trail ws) value) i ≡ key_with i key ws ++ node_text value
pair_spelled key ws value i = by (long_key key)
  where
    by : (b : Bool) → pair_text (cond b (asked (node (flow one_space (word_flow key) (ends (next_trail ws)))) (node value))
        (keyed (word_flow key) [] value)) i
        ≡ cond b (codes "? " ++ key_text key ++ trail_text (next_trail ws) ++ spaces i ++ codes ":") (key_text key ++ codes ":")
        ++ node_text value
    by true = rw (ends_spelled (next_trail ws))
        (ap (λ k. ((((codes "? " ++ k) ++ trail_text (next_trail ws)) ++ spaces i) ++ codes ":") ++ node_text value)
        (word_flow_spelled key))
    by false = ap (λ k. (k ++ codes ":") ++ node_text value) (append-nil _ ∙ word_flow_spelled key)

-- an empty collection is spelled with what is behind it
empty_spelled : (source : List ℕ) (w : Trail) → source ++ comments_text (ends w) ≡ source ++ trail_text w
empty_spelled source w = ap (λ t. source ++ t) (ends_spelled w)

-- ---- trees

-- a further item, or pair, after the spaces that lead it
item_regrouped : (s e b : List ℕ) → ((s ++ codes "- ") ++ e) ++ b ≡ s ++ (codes "- " ++ e ++ b)
item_regrouped s e b = append_assoc (s ++ codes "- ") e b ∙ append_assoc s (codes "- ") (e ++ b)

-- an item and those after it, regrouped
item_joined : (a s e b : List ℕ) → (a ++ s) ++ (codes "- " ++ e ++ b) ≡ a ++ (((s ++ codes "- ") ++ e) ++ b)
item_joined a s e b = append_assoc a s (codes "- " ++ e ++ b) ∙ ap (λ t. a ++ t) (sym (item_regrouped s e b))

-- a pair and those after it, regrouped
pair_joined : (a s k v b : List ℕ) → (a ++ s) ++ ((k ++ v) ++ b) ≡ a ++ (((s ++ k) ++ v) ++ b)
pair_joined a s k v b = simp append_assoc

mutual
  -- an element spells its lines
  pub element_spelled : (t : Tree) (i : ℕ) (ws : List Trail) → indented_text (element_of t i ws) i ≡ 32 ∷ element_with t i ws
  element_spelled (text value) i ws = scalar_spelled one_space i value (next_trail ws)
  element_spelled (sequence no_element) i ws = empty_spelled (codes " []") (next_trail ws)
  element_spelled (sequence (element t ts)) i ws =
      rw (two_more i, elements_spelled (element_of t (i + 2) ws) ts (i + 2) (after_tree t ws), element_spelled t (i + 2) ws)
  element_spelled (mapping no_member) i ws = empty_spelled (codes " {}") (next_trail ws)
  element_spelled (mapping (member key t ms)) i ws =
      let rest : List Trail = after_key key ws in
      rw (
        two_more i,
        members_spelled (pair_of key (next_trail ws) (value_of t (i + 2) rest)) ms (i + 2) (after_value t rest),
        pair_spelled key ws (value_of t (i + 2) rest) (i + 2),
        value_spelled t (i + 2) rest,
      )

  -- a value is spelled after the `:` of its key
  value_spelled : (t : Tree) (i : ℕ) (ws : List Trail) → node_text (value_of t i ws) ≡ value_with t i ws
  value_spelled (text value) i ws = scalar_spelled one_space i value (next_trail ws)
  value_spelled (sequence no_element) i ws = empty_spelled (codes " []") (next_trail ws)
  value_spelled (sequence (element t ts)) i ws =
      let rest : List Trail = later_trails ws in
      rw (
        ends_spelled (next_trail ws),
        elements_spelled (element_of t (i + 2) rest) ts (i + 2) (after_tree t rest),
        element_spelled t (i + 2) rest,
      )
  value_spelled (mapping no_member) i ws = empty_spelled (codes " {}") (next_trail ws)
  value_spelled (mapping (member key t ms)) i ws =
      let rest : List Trail = later_trails ws in
      let more : List Trail = after_key key rest in
      rw (
        ends_spelled (next_trail ws),
        members_spelled (pair_of key (next_trail rest) (value_of t (i + 2) more)) ms (i + 2) (after_value t more),
        pair_spelled key rest (value_of t (i + 2) more) (i + 2),
        value_spelled t (i + 2) more,
      )

  -- a first element and further ones are spelled
  pub elements_spelled : (one : Indented) (ts : Elements) (i : ℕ) (ws : List Trail)
      → items_text (items_from one ts i ws) i ≡ 45 ∷ (indented_text one i ++ elements_with ts i ws)
  elements_spelled one no_element i ws = ap (λ x. 45 ∷ x) (sym (append-nil _))
  elements_spelled one (element t ts) i ws =
      rw (elements_spelled (element_of t i ws) ts i (after_tree t ws), element_spelled t i ws)
      (ap (λ x. 45 ∷ x) (item_joined (indented_text one i) (spaces i) (element_with t i ws)
      (elements_with ts i (after_tree t ws))))

  -- a first member and further ones are spelled
  pub members_spelled : (one : Pair) (ms : Members) (i : ℕ) (ws : List Trail)
      → pairs_text (pairs_from one ms i ws) i ≡ pair_text one i ++ members_with ms i ws
  members_spelled one no_member i ws = sym (append-nil _)
  members_spelled one (member key t ms) i ws =
      let rest : List Trail = after_key key ws in
      rw (
        members_spelled (pair_of key (next_trail ws) (value_of t i rest)) ms i (after_value t rest),
        pair_spelled key ws (value_of t i rest) i,
        value_spelled t i rest,
      )
      (pair_joined (pair_text one i) (spaces i) (key_with i key ws) (value_with t i rest)
      (members_with ms i (after_value t rest)))

-- a node at the top spells the tree's lines
pub top_spelled : (t : Tree) (ws : List Trail) → node_text (top_node t ws) ≡ tree_with t ws
top_spelled (text value) ws = scalar_spelled (inline []) 0 value (next_trail ws)
top_spelled (sequence no_element) ws = empty_spelled (codes "[]") (next_trail ws)
top_spelled (sequence (element t ts)) ws =
    rw (elements_spelled (element_of t 0 ws) ts 0 (after_tree t ws), element_spelled t 0 ws)
top_spelled (mapping no_member) ws = empty_spelled (codes "{}") (next_trail ws)
top_spelled (mapping (member key t ms)) ws =
    let rest : List Trail = after_key key ws in
    rw (
      members_spelled (pair_of key (next_trail ws) (value_of t 0 rest)) ms 0 (after_value t rest),
      pair_spelled key ws (value_of t 0 rest) 0,
      value_spelled t 0 rest,
    )

-- the presentation of a tree with comments spells its text
pub presentation_spelled : (lead : List Extra) (t : Tree) (ws : List Trail)
    → stream_text (presentation_of lead t ws) ≡ commented_text lead t ws
presentation_spelled lead t ws = append-nil _ ∙ rw (extras_spelled lead, top_spelled t ws)
