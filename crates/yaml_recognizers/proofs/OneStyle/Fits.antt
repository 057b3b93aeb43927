-- The presentation of a tree fits.
use Rattle.std.{proofs.Common.{◌≡◌, refl, ◌∙◌, arith, ◌≤◌}, specs.Prelude.{ℕ, zero, suc, ◌+◌, Bool, true, false, cond, not, ◌||◌, ◌==◌}}
use Rattle.std.specs.Prelude.{List, [], ◌∷◌, ◌++◌, codes, length}
use Rattle.yaml_recognizers.proofs.Prelude.{append-nil, and_parts, and_from, or_left, or_parts, not-true, le-leb, ltb-false, false≢true, ns}
use Rattle.yaml_recognizers.proofs.Prelude.{line_break, IsText, first, spaces, starts_line, ends_word, sep_fits, comments_fit, outer}
use Rattle.yaml_recognizers.proofs.Prelude.{block_key, flow_text, short_key, Node, flow, node_text, node_fits, items_text, items_fit}
use Rattle.yaml_recognizers.proofs.Prelude.{Indented, indented_text, indented_fits, node, Pair, pair_text, pair_fits, pairs_text, pairs_fit}
use Rattle.yaml_recognizers.proofs.Prelude.{asked, keyed, fits, Tree, text, sequence, mapping, Elements, no_element, element, Members}
use Rattle.yaml_recognizers.proofs.Prelude.{no_member, member, IsTextTree, AreTextElements, AreTextMembers, plain_in_style, letter}
use Rattle.yaml_recognizers.proofs.{Prelude.{in_double_quotes, key_text, long_key, key_lines, style_text}, OneStyle.Closings.ends_from}
use Rattle.yaml_recognizers.proofs.OneStyle.{StyleLines.style_lined, Characters.of_letter, Presented.{feed, one_space, word_flow, pair_of}}
use Rattle.yaml_recognizers.proofs.OneStyle.Presented.{element_of, value_of, items_from, pairs_from, Place, at_start, after_marker}
use Rattle.yaml_recognizers.proofs.OneStyle.Presented.{place_sep, place_comments, top_node, presentation_of, framed_presentation_of}
use Rattle.yaml_recognizers.proofs.OneStyle.Spelled.{top_spelled, element_spelled, pair_spelled, word_flow_spelled, two_more}
use Rattle.yaml_recognizers.proofs.OneStyle.ScalarsFit.{Below, word_flow_fits, scalar_node_fits}

-- ---- what comes after

-- a character that begins a line's contents
abbrev solid : ℕ → Bool
solid c = not ((c == 32) || line_break c)

-- something solid after i spaces is no deeper than i
below_solid : (i : ℕ) (after : List ℕ) → first solid after ≡ true → Below i (spaces i ++ after)
below_solid zero [] h = absurd (false≢true h)
below_solid zero (c ∷ cs) h =
    let p : (c == 32 ≡ false) × (line_break c ≡ false) = or_parts _ _ (not-true _ h) in
    rw p.0 (omega arith, p.1)
below_solid (suc i) after h = let b : Below i (spaces i ++ after) = below_solid i after h in (omega (arith, b.0), b.1)

-- what is no deeper than i is no deeper than i + 2
below_more : (i : ℕ) (after : List ℕ) → Below i after → Below (i + 2) after
below_more i after b = (omega (arith, b.0), b.1)

-- items begin with something solid
items_begin : (one : Indented) (ts : Elements) (i : ℕ) (after : List ℕ) → first solid (items_text (items_from one ts i) i ++ after) ≡ true
items_begin one no_element i after = refl
items_begin one (element t ts) i after = refl

-- the first element of two lists, joined, is that of the first, if it has one
first_joined : (p : ℕ → Bool) (prefix after : List ℕ) → first p prefix ≡ true → first p (prefix ++ after) ≡ true
first_joined p [] after h = absurd (false≢true h)
first_joined p (c ∷ cs) after h = h

-- ---- pairs

-- a key begins with a letter, a quote or `?`
letter_solid : (key : List ℕ) → first letter key ≡ true → first solid key ≡ true
letter_solid [] h = absurd (false≢true h)
letter_solid (c ∷ cs) h = of_letter solid c refl h

-- a key as it is written begins with something solid
key_begins : (i : ℕ) (key : List ℕ) → first solid (key_lines i key) ≡ true
key_begins i key = by (long_key key) (plain_in_style key) refl
  where
    by : (l p : Bool) → plain_in_style key ≡ p
        → first solid (cond l (codes "? " ++ key_text key ++ codes "\n" ++ spaces i ++ codes ":")
        (cond p key (in_double_quotes key) ++ codes ":")) ≡ true
    by true p e = refl
    by false true e = first_joined solid key _ (letter_solid key (and_parts _ _ (and_parts _ _ (and_parts _ _ e).0).0).0)
    by false false e = refl

-- a pair begins with something solid
pair_begins : (key : List ℕ) (value : Node) (i : ℕ) → first solid (pair_text (pair_of key value) i) ≡ true
pair_begins key value i = rw (pair_spelled key value i) (first_joined solid (key_lines i key) (node_text value) (key_begins i key))

-- and so do pairs
pairs_begin : (one : Pair) (ms : Members) (i : ℕ) → first solid (pair_text one i) ≡ true
    → first solid (pairs_text (pairs_from one ms i) i) ≡ true
pairs_begin one no_member i h = h
pairs_begin one (member key t ms) i h = first_joined solid (pair_text one i ++ spaces i) _
    (first_joined solid (pair_text one i) (spaces i) h)

-- a pair fits, if its value does
pair_of_fits : (key : List ℕ) (value : Node) (i : ℕ) (bol : Bool) (after : List ℕ) → IsText key
    → node_fits value (suc i) true false after ≡ true
    → pair_fits (pair_of key value) i bol after ≡ true
pair_of_fits key value i bol after t h = by (long_key key) refl
  where
    by : (b : Bool) → long_key key ≡ b → pair_fits
        (cond b (asked (node (flow one_space (word_flow key) (feed ∷ []))) (node value))
        (keyed (word_flow key) [] value)) i bol after ≡ true
    by true e = and_from _ _ (and_from _ _ refl
        (and_from _ _ (and_from _ _ refl (word_flow_fits key (suc i) outer false
        (10 ∷ (spaces i ++ (58 ∷ (node_text value ++ after)))) (λ x. refl) t)) refl)) h
    by false e =
        let long : length (key_text key) ≤ 1000 = ltb-false 1000 (length (key_text key)) e in
        let same : flow_text (word_flow key) ++ [] ≡ key_text key = append-nil _ ∙ word_flow_spelled key in
        let short : short_key (word_flow key) [] ≡ true = rw same (le-leb (length (key_text key)) 1024 (omega (arith, long))) in
        and_from _ _ (and_from _ _ (and_from _ _ (word_flow_fits key 0 block_key bol (58 ∷ (node_text value ++ after))
        (λ x. refl) t) refl) short) h

-- ---- trees

-- whitespace or a line break comes after the `-` of an element
apart : (t : Tree) (i : ℕ) (rest : List ℕ) → not (first ns (indented_text (element_of t i) i ++ rest)) ≡ true
apart t i rest = rw (element_spelled t i)

mutual
  -- an element fits after its `-`
  element_fits : (t : Tree) (i : ℕ) (after : List ℕ) → IsTextTree t → Below i after → indented_fits (element_of t i) i false after ≡ true
  element_fits (text value) i after h b = scalar_node_fits one_space i (suc i) false false value after (omega arith) h (λ rest. refl) b
  element_fits (sequence no_element) i after h b = refl
  element_fits (sequence (element t ts)) i after h b =
      rw (two_more i) (elements_fit (element_of t (i + 2)) ts (i + 2) after (apart t (i + 2))
      (λ rest c. element_fits t (i + 2) rest h.0 c) h.1 (below_more i after b))
  element_fits (mapping no_member) i after h b = refl
  element_fits (mapping (member key t ms)) i after h b =
      rw (two_more i) (members_fit (pair_of key (value_of t (i + 2))) ms (i + 2) false after
      (λ bol rest c. pair_of_fits key (value_of t (i + 2)) (i + 2) bol rest h.0 (value_fits t (i + 2) rest h.1 c)) h.2
      (below_more i after b))

  -- a value fits after the `:` of its key
  value_fits : (t : Tree) (i : ℕ) (after : List ℕ) → IsTextTree t → Below i after → node_fits (value_of t i) (suc i) true false after ≡ true
  value_fits (text value) i after h b = scalar_node_fits one_space i (suc i) true false value after (omega arith) h (λ rest. refl) b
  value_fits (sequence no_element) i after h b = refl
  value_fits (sequence (element t ts)) i after h b =
      and_from _ _ (and_from _ _ refl (le-leb (suc i) (suc (i + 2)) (omega arith)))
      (elements_fit (element_of t (i + 2)) ts (i + 2) after (apart t (i + 2))
      (λ rest c. element_fits t (i + 2) rest h.0 c) h.1 (below_more i after b))
  value_fits (mapping no_member) i after h b = refl
  value_fits (mapping (member key t ms)) i after h b =
      and_from _ _ (and_from _ _ refl (le-leb (suc i) (i + 2) (omega arith)))
      (members_fit (pair_of key (value_of t (i + 2))) ms (i + 2) (i + 2 == 0) after
      (λ bol rest c. pair_of_fits key (value_of t (i + 2)) (i + 2) bol rest h.0 (value_fits t (i + 2) rest h.1 c)) h.2
      (below_more i after b))

  -- elements fit after a first one that does
  elements_fit : (one : Indented) (ts : Elements) (i : ℕ) (after : List ℕ)
      → ((rest : List ℕ) → not (first ns (indented_text one i ++ rest)) ≡ true)
      → ((rest : List ℕ) → Below i rest → indented_fits one i false rest ≡ true) → AreTextElements ts → Below i after
      → items_fit (items_from one ts i) i after ≡ true
  elements_fit one no_element i after a f h b = and_from _ _ (a after) (f after b)
  elements_fit one (element t ts) i after a f h b =
      let rest : List ℕ = spaces i ++ (items_text (items_from (element_of t i) ts i) i ++ after) in
      and_from _ _ (and_from _ _ (a rest) (f rest (below_solid i _ (items_begin (element_of t i) ts i after))))
      (elements_fit (element_of t i) ts i after (apart t i) (λ r c. element_fits t i r h.0 c) h.1 b)

  -- members fit after a first one that does
  members_fit : (one : Pair) (ms : Members) (i : ℕ) (bol : Bool) (after : List ℕ)
      → ((start : Bool) (rest : List ℕ) → Below i rest → pair_fits one i start rest ≡ true)
      → AreTextMembers ms → Below i after → pairs_fit (pairs_from one ms i) i bol after ≡ true
  members_fit one no_member i bol after f h b = f bol after b
  members_fit one (member key t ms) i bol after f h b =
      let rest : List ℕ = spaces i ++ (pairs_text (pairs_from (pair_of key (value_of t i)) ms i) i ++ after) in
      and_from _ _ (f bol rest (below_solid i _ (first_joined solid
      (pairs_text (pairs_from (pair_of key (value_of t i)) ms i) i) after
      (pairs_begin (pair_of key (value_of t i)) ms i (pair_begins key (value_of t i) i)))))
      (members_fit (pair_of key (value_of t i)) ms i (i == 0) after
      (λ start r c. pair_of_fits key (value_of t i) i start r h.0 (value_fits t i r h.1 c)) h.2 b)

-- whether a line starts where the tree begins
abbrev starts_there : Place → Bool
starts_there at_start = true
starts_there after_marker = false

-- the separation before a tree fits
place_fits : (place : Place) (rest : List ℕ) → sep_fits 0 false (starts_there place) (place_sep place) rest ≡ true
place_fits at_start rest = refl
place_fits after_marker rest = refl

-- the comments before a tree fit
comments_there : (place : Place) (rest : List ℕ) → comments_fit (starts_there place) (place_comments place) rest ≡ true
comments_there at_start rest = refl
comments_there after_marker rest = refl

-- a whole tree fits at its place
top_fits : (place : Place) (t : Tree) (after : List ℕ) → IsTextTree t → Below 0 after
    → node_fits (top_node place t) 0 false (starts_there place) after ≡ true
top_fits place (text value) after h b = scalar_node_fits (place_sep place) 0 0 false (starts_there place) value after
    (omega arith) h (place_fits place) b
top_fits at_start (sequence no_element) after h b = refl
top_fits after_marker (sequence no_element) after h b = refl
top_fits place (sequence (element t ts)) after h b =
    and_from _ _ (and_from _ _ (comments_there place _) refl)
    (elements_fit (element_of t 0) ts 0 after (apart t 0) (λ rest c. element_fits t 0 rest h.0 c) h.1 b)
top_fits at_start (mapping no_member) after h b = refl
top_fits after_marker (mapping no_member) after h b = refl
top_fits place (mapping (member key t ms)) after h b =
    and_from _ _ (and_from _ _ (comments_there place _) refl)
    (members_fit (pair_of key (value_of t 0)) ms 0 true after
    (λ bol rest c. pair_of_fits key (value_of t 0) 0 bol rest h.0 (value_fits t 0 rest h.1 c)) h.2 b)

-- the presentation of a tree fits
pub presentation_fits : (t : Tree) → IsTextTree t → fits (presentation_of t) ≡ true
presentation_fits t h = and_from _ _ (and_from _ _ refl (top_fits at_start t [] h (omega arith, refl))) refl

-- ---- between `---` and `...`

-- a line starts after a text that ends in a line feed
feed_starts : (one other : Bool) (source : List ℕ) → (one ≡ true → other ≡ true) → ends_from one source ≡ true
    → starts_line other source ≡ true
feed_starts one other [] f h = f h
feed_starts one other (c ∷ cs) f h = feed_starts (c == 10) (line_break c) cs (λ e. or_left (c == 10) (c == 13) e) h

-- `...` is at the start of a line
line_after : (t : Tree) → starts_line true (codes "---" ++ node_text (top_node after_marker t)) ≡ true
line_after t = rw (top_spelled after_marker t) (feed_starts true true (style_text t) (λ e. refl) (style_lined t).1)

-- after `---` comes whitespace or a line break
word_ends : (t : Tree) (after : List ℕ) → ends_word (node_text (top_node after_marker t) ++ after) ≡ true
word_ends t after = rw (top_spelled after_marker t)

-- so does the framed one
pub framed_fits : (t : Tree) → IsTextTree t → fits (framed_presentation_of t) ≡ true
framed_fits t h =
    let dots : List ℕ = codes "...\n" in
    and_from _ _ (and_from _ _ refl (and_from _ _ (word_ends t dots)
    (top_fits after_marker t dots h (omega arith, refl)))) (rw (line_after t))
