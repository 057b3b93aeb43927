-- The presentation of a tree with comments that fit fits.
use Rattle.std.proofs.{Common.{◌≡◌, refl, sym, ◌∙◌, arith, ◌≤◌, append_assoc}, lemmas.{List.append-nil, Bool.{and_parts, and_from}}}
use Rattle.std.{proofs.lemmas.Bool.{or_parts, not-true, le-leb, ltb-false, false≢true}, specs.Prelude.{ℕ, suc, ◌+◌, Bool, true, false}}
use Rattle.std.specs.{Prelude.{cond, not, ◌||◌, ◌==◌, List, [], ◌∷◌, ◌++◌, Option, Some, None, codes, length}, List.list_all}
use Rattle.{yaml_chars.specs.Classes.{ns, line_break}, yaml_grammar.specs.{Texts.{IsText, first, spaces, starts_line}, Separation.Sep}}
use Rattle.yaml_grammar.specs.{Separation.{inline, sep_text, sep_fits, line_end_fits, comments_text}, FlowScalars.{FlowContext, outer}}
use Rattle.yaml_grammar.specs.{FlowScalars.{block_key, plain, double}, FlowNodes.{scalar, flow_text, flow_fits, short_key}}
use Rattle.yaml_grammar.specs.{BlockScalars.{block_text, block_fits, body_text, spaces_before}, BlockNodes.{Node, flow, block, node_text}}
use Rattle.yaml_grammar.specs.BlockNodes.{node_fits, items_text, items_fit, Indented, indented_text, indented_fits, node, Pair, pair_fits}
use Rattle.yaml_grammar.specs.{BlockNodes.{pairs_text, pairs_fit, asked, keyed}, Streams.fits, Trees.{Tree, text, sequence, mapping}}
use Rattle.yaml_grammar.specs.Trees.{Elements, no_element, element, Members, no_member, member, IsTextTree, AreTextElements, AreTextMembers}
use Rattle.yaml_grammar.specs.Style.{plain_in_style, literal_in_style, letter, in_double_quotes, key_text, long_key}
use Rattle.yaml_recognizers.proofs.{Basics.Spaces.{spaces_added, spaces_past}, OneStyle.Presented.{one_space, items_of_text, word_flow}}
use Rattle.yaml_recognizers.proofs.OneStyle.{Spelled.{word_flow_spelled, two_more}, Characters.of_letter, ScalarsFit.{Below, Wide}}
use Rattle.{yaml_recognizers.proofs.OneStyle.ScalarsFit.word_flow_fits, yaml_commented.specs.Trails.{Extra, Trail, trail_text}}
use Rattle.yaml_commented.specs.Commented.{next_trail, later_trails, after_key, after_tree, after_value, key_with, elements_with}
use Rattle.yaml_commented.specs.{Commented.members_with, TrailsFit.{behind_fits, extra_fits, trail_fits, starts_low, literal_trail_fits}}
use Rattle.yaml_commented.specs.TrailsFit.{scalar_trail_fits, key_trail_fits, ElementFits, ValueFits, ElementsFit, MembersFit, TreeFits}
use Rattle.yaml_commented.{specs.TrailsFit.Fits, proofs.Presented.{line_end, extra_lines, ends, empties_first, past_empties, literal_block}}
use Rattle.yaml_commented.proofs.Presented.{scalar_node, pair_of, element_of, value_of, items_from, pairs_from, top_node, presentation_of}
use Rattle.yaml_commented.proofs.{Extras.{extra_lines_fit, ends_fit, below_trail, trail_fits_there}, Literals.body_fits_there}
use Rattle.yaml_commented.proofs.Spelled.{element_spelled, elements_spelled, members_spelled, pair_spelled}

-- ---- scalars

-- a word fits as a plain scalar
word_fits : (value : List ℕ) (n : ℕ) (c : FlowContext) (bol : Bool) (after : List ℕ) → Wide c → IsText value
    → plain_in_style value ≡ true → flow_fits (scalar (plain value [])) n c bol after ≡ true
word_fits value n c bol after w t e = by (plain_in_style value) e (word_flow_fits value n c bol after w t)
  where
    by : (b : Bool) → b ≡ true → flow_fits (scalar (cond b (plain value []) (double (items_of_text value) []))) n c bol after ≡ true
        → flow_fits (scalar (plain value [])) n c bol after ≡ true
    by true e h = h
    by false e h = absurd (false≢true e)

-- another text fits between double quotes
quoted_fits : (value : List ℕ) (n : ℕ) (c : FlowContext) (bol : Bool) (after : List ℕ) → Wide c → IsText value
    → plain_in_style value ≡ false → flow_fits (scalar (double (items_of_text value) [])) n c bol after ≡ true
quoted_fits value n c bol after w t e = by (plain_in_style value) e (word_flow_fits value n c bol after w t)
  where
    by : (b : Bool) → b ≡ false → flow_fits (scalar (cond b (plain value []) (double (items_of_text value) []))) n c bol after ≡ true
        → flow_fits (scalar (double (items_of_text value) [])) n c bol after ≡ true
    by true e h = absurd (false≢true (sym e))
    by false e h = h

-- the end of a header's line fits
header_fits_there : (behind : Option (List ℕ)) (after : List ℕ) → behind_fits behind ≡ true
    → line_end_fits false (line_end behind) after ≡ true
header_fits_there None after h = refl
header_fits_there (Some comment) after h = rw h

-- what a trail behind a literal has to meet
pub literal_conditions : (i : ℕ) (value : List ℕ) (w : Trail) → plain_in_style value ≡ false → literal_in_style value ≡ true
    → scalar_trail_fits i value w ≡ true → literal_trail_fits i value w ≡ true
literal_conditions i value w e f h = by (plain_in_style value) (literal_in_style value) e f (and_parts _ _ h).1
  where
    by : (p l : Bool) → p ≡ false → l ≡ true → p || not l || literal_trail_fits i value w ≡ true → literal_trail_fits i value w ≡ true
    by true l e f h = absurd (false≢true (sym e))
    by false false e f h = absurd (false≢true f)
    by false true e f h = h

-- a literal fits with what is behind it
literal_fits : (i m : ℕ) (value : List ℕ) (w : Trail) (after : List ℕ) → m ≤ i + 2 → IsText value → plain_in_style value ≡ false
    → literal_in_style value ≡ true → scalar_trail_fits i value w ≡ true → Below i after
    → block_fits m (literal_block (i + 2) value w) after ≡ true
literal_fits i m value w after l t e f h b =
    let all : trail_fits w ≡ true = (and_parts _ _ h).0 in
    let p : (behind_fits w.behind ≡ true) × (list_all extra_fits w.lines ≡ true) = and_parts _ _ all in
    let low : starts_low i w.lines ≡ true = (and_parts _ _ (literal_conditions i value w e f h)).1 in
    let rest : List ℕ = comments_text (extra_lines (past_empties w.lines)) ++ after in
    and_from _ _ (and_from _ _ (header_fits_there w.behind (body_text (literal_block (i + 2) value w).body ++ rest) p.0)
    (body_fits_there i m (empties_first w.lines) value rest l t e f (below_trail i w.lines after low b)))
    (trail_fits_there i w.lines after p.1 low)

-- a scalar fits as a node, with what is behind it
scalar_node_fits : (sep : Sep) (i m : ℕ) (shallow bol : Bool) (value : List ℕ) (w : Trail) (after : List ℕ) → m ≤ i + 2
    → IsText value → ((rest : List ℕ) → sep_fits m false bol sep rest ≡ true) → scalar_trail_fits i value w ≡ true
    → Below i after → node_fits (scalar_node sep (i + 2) value w) m shallow bol after ≡ true
scalar_node_fits sep i m shallow bol value w after l t s h b = by (plain_in_style value) (literal_in_style value) refl refl
  where
    all : trail_fits w ≡ true
    all = (and_parts _ _ h).0

    by : (p q : Bool) → plain_in_style value ≡ p → literal_in_style value ≡ q
        → node_fits (cond p (flow sep (scalar (plain value [])) (ends w))
        (cond q (block sep (literal_block (i + 2) value w))
        (flow sep (scalar (double (items_of_text value) [])) (ends w)))) m shallow bol after ≡ true
    by true q e f = and_from _ _ (and_from _ _ (s (flow_text (scalar (plain value [])) ++ (comments_text (ends w) ++ after)))
        (word_fits value m outer (starts_line bol (sep_text sep)) (comments_text (ends w) ++ after) (λ x. refl) t e))
        (ends_fit w after all)
    by false true e f = and_from _ _ (s (block_text (literal_block (i + 2) value w) ++ after)) (literal_fits i m value w after l t e f h b)
    by false false e f = and_from _ _ (and_from _ _
        (s (flow_text (scalar (double (items_of_text value) [])) ++ (comments_text (ends w) ++ after)))
        (quoted_fits value m outer (starts_line bol (sep_text sep)) (comments_text (ends w) ++ after) (λ x. refl) t e))
        (ends_fit w after all)

-- ---- what comes after

-- a character that begins a line's contents
abbrev solid : ℕ → Bool
solid c = not ((c == 32) || line_break c)

-- something solid after i spaces is no deeper than i
below_solid : (i : ℕ) (source after : List ℕ) → first solid source ≡ true → Below i (spaces i ++ (source ++ after))
below_solid i [] after h = absurd (false≢true h)
below_solid i (c ∷ cs) after h =
    let p : (c == 32 ≡ false) × (line_break c ≡ false) = or_parts _ _ (not-true _ h) in
    let none : spaces_before (c ∷ (cs ++ after)) ≡ 0 = rw p.0 refl in
    (omega (arith, spaces_added i (c ∷ (cs ++ after)), none), rw (spaces_past i (c ∷ (cs ++ after)), p.0) p.1)

-- what is no deeper than i is no deeper than i + 2
below_more : (i : ℕ) (after : List ℕ) → Below i after → Below (i + 2) after
below_more i after b = (omega (arith, b.0), b.1)

-- an item that comes after another
below_items : (one : Indented) (ts : Elements) (i : ℕ) (ws : List Trail) (after : List ℕ)
    → Below i (spaces i ++ (items_text (items_from one ts i ws) i ++ after))
below_items one ts i ws after = rw (elements_spelled one ts i ws)
    (below_solid i (45 ∷ (indented_text one i ++ elements_with ts i ws)) after refl)

-- a key begins with a letter, a quote or `?`
key_begins : (i : ℕ) (key : List ℕ) (ws : List Trail) → first solid (key_with i key ws) ≡ true
key_begins i key ws = by (long_key key) (plain_in_style key) refl
  where
    joined : (prefix after : List ℕ) → first solid prefix ≡ true → first solid (prefix ++ after) ≡ true
    joined [] after h = absurd (false≢true h)
    joined (c ∷ cs) after h = h

    word : (cs : List ℕ) → first letter cs ≡ true → first solid cs ≡ true
    word [] h = absurd (false≢true h)
    word (c ∷ cs) h = of_letter solid c refl h

    by : (l p : Bool) → plain_in_style key ≡ p
        → first solid (cond l (codes "? " ++ key_text key ++ trail_text (next_trail ws) ++ spaces i ++ codes ":")
        (cond p key (in_double_quotes key) ++ codes ":")) ≡ true
    by true p e = refl
    by false true e = joined key _ (word key (and_parts _ _ (and_parts _ _ (and_parts _ _ e).0).0).0)
    by false false e = refl

-- a pair that comes after another
below_pairs : (key : List ℕ) (value : Node) (ms : Members) (i : ℕ) (ws rest : List Trail) (after : List ℕ)
    → Below i (spaces i ++ (pairs_text (pairs_from (pair_of key (next_trail ws) value) ms i rest) i ++ after))
below_pairs key value ms i ws rest after =
    rw (
      members_spelled (pair_of key (next_trail ws) value) ms i rest,
      pair_spelled key ws value i,
      append_assoc (key_with i key ws ++ node_text value) (members_with ms i rest) after,
      append_assoc (key_with i key ws) (node_text value) (members_with ms i rest ++ after),
    )
    (below_solid i (key_with i key ws) (node_text value ++ (members_with ms i rest ++ after)) (key_begins i key ws))

-- ---- pairs

-- a key's own trail fits, where the key is long
pub long_trail : (key : List ℕ) (w : Trail) → not (long_key key) || trail_fits w ≡ true → long_key key ≡ true → trail_fits w ≡ true
long_trail key w h e = by (long_key key) e h
  where
    by : (b : Bool) → b ≡ true → not b || trail_fits w ≡ true → trail_fits w ≡ true
    by true e h = h
    by false e h = absurd (false≢true e)

-- a pair fits, if its value does
pair_of_fits : (key : List ℕ) (ws : List Trail) (value : Node) (i : ℕ) (bol : Bool) (after : List ℕ) → IsText key
    → key_trail_fits key ws ≡ true → node_fits value (suc i) true false after ≡ true
    → pair_fits (pair_of key (next_trail ws) value) i bol after ≡ true
pair_of_fits key ws value i bol after t k h = by (long_key key) refl
  where
    by : (b : Bool) → long_key key ≡ b → pair_fits
        (cond b (asked (node (flow one_space (word_flow key) (ends (next_trail ws)))) (node value))
        (keyed (word_flow key) [] value)) i bol after ≡ true
    by true e =
        let rest : List ℕ = spaces i ++ (58 ∷ (node_text value ++ after)) in
        and_from _ _ (and_from _ _ refl (and_from _ _ (and_from _ _ refl
        (word_flow_fits key (suc i) outer false (comments_text (ends (next_trail ws)) ++ rest) (λ x. refl) t))
        (ends_fit (next_trail ws) rest (long_trail key (next_trail ws) k e)))) h
    by false e =
        let long : length (key_text key) ≤ 1000 = ltb-false 1000 (length (key_text key)) e in
        let same : flow_text (word_flow key) ++ [] ≡ key_text key = append-nil _ ∙ word_flow_spelled key in
        let short : short_key (word_flow key) [] ≡ true = rw same (le-leb (length (key_text key)) 1024 (omega (arith, long))) in
        and_from _ _ (and_from _ _ (and_from _ _ (word_flow_fits key 0 block_key bol (58 ∷ (node_text value ++ after))
        (λ x. refl) t) refl) short) h

-- ---- trees

-- whitespace or a line break comes after the `-` of an element
apart : (t : Tree) (i : ℕ) (ws : List Trail) (rest : List ℕ) → not (first ns (indented_text (element_of t i ws) i ++ rest)) ≡ true
apart t i ws rest = rw (element_spelled t i ws)

mutual
  -- an element fits after its `-`
  element_fits : (t : Tree) (i : ℕ) (ws : List Trail) (after : List ℕ) → IsTextTree t → ElementFits t i ws → Below i after
      → indented_fits (element_of t i ws) i false after ≡ true
  element_fits (text value) i ws after h f b =
      scalar_node_fits one_space i (suc i) false false value (next_trail ws) after (omega arith) h (λ rest. refl) f b
  element_fits (sequence no_element) i ws after h f b = and_from _ _ refl (ends_fit (next_trail ws) after f)
  element_fits (sequence (element t ts)) i ws after h f b =
      rw (two_more i) (elements_fit (element_of t (i + 2) ws) ts (i + 2) (after_tree t ws) after (apart t (i + 2) ws)
      (λ rest c. element_fits t (i + 2) ws rest h.0 f.0 c) h.1 f.1 (below_more i after b))
  element_fits (mapping no_member) i ws after h f b = and_from _ _ refl (ends_fit (next_trail ws) after f)
  element_fits (mapping (member key t ms)) i ws after h f b =
      let rest : List Trail = after_key key ws in
      rw (two_more i) (members_fit (pair_of key (next_trail ws) (value_of t (i + 2) rest)) ms (i + 2) (after_value t rest)
      false after
      (λ bol later c. pair_of_fits key ws (value_of t (i + 2) rest) (i + 2) bol later h.0 f.0
      (value_fits t (i + 2) rest later h.1 f.1 c)) h.2 f.2 (below_more i after b))

  -- a value fits after the `:` of its key
  value_fits : (t : Tree) (i : ℕ) (ws : List Trail) (after : List ℕ) → IsTextTree t → ValueFits t i ws → Below i after
      → node_fits (value_of t i ws) (suc i) true false after ≡ true
  value_fits (text value) i ws after h f b =
      scalar_node_fits one_space i (suc i) true false value (next_trail ws) after (omega arith) h (λ rest. refl) f b
  value_fits (sequence no_element) i ws after h f b = and_from _ _ refl (ends_fit (next_trail ws) after f)
  value_fits (sequence (element t ts)) i ws after h f b =
      let rest : List Trail = later_trails ws in
      and_from _ _ (and_from _ _ (ends_fit (next_trail ws) _ f.0) (le-leb (suc i) (suc (i + 2)) (omega arith)))
      (elements_fit (element_of t (i + 2) rest) ts (i + 2) (after_tree t rest) after (apart t (i + 2) rest)
      (λ later c. element_fits t (i + 2) rest later h.0 f.1 c) h.1 f.2 (below_more i after b))
  value_fits (mapping no_member) i ws after h f b = and_from _ _ refl (ends_fit (next_trail ws) after f)
  value_fits (mapping (member key t ms)) i ws after h f b =
      let own : List Trail = later_trails ws in
      let rest : List Trail = after_key key own in
      and_from _ _ (and_from _ _ (ends_fit (next_trail ws) _ f.0) (le-leb (suc i) (i + 2) (omega arith)))
      (members_fit (pair_of key (next_trail own) (value_of t (i + 2) rest)) ms (i + 2) (after_value t rest) (i + 2 == 0) after
      (λ bol later c. pair_of_fits key own (value_of t (i + 2) rest) (i + 2) bol later h.0 f.1
      (value_fits t (i + 2) rest later h.1 f.2 c)) h.2 f.3 (below_more i after b))

  -- elements fit after a first one that does
  elements_fit : (one : Indented) (ts : Elements) (i : ℕ) (ws : List Trail) (after : List ℕ)
      → ((rest : List ℕ) → not (first ns (indented_text one i ++ rest)) ≡ true)
      → ((rest : List ℕ) → Below i rest → indented_fits one i false rest ≡ true) → AreTextElements ts → ElementsFit ts i ws
      → Below i after → items_fit (items_from one ts i ws) i after ≡ true
  elements_fit one no_element i ws after a g h f b = and_from _ _ (a after) (g after b)
  elements_fit one (element t ts) i ws after a g h f b =
      let more : List Trail = after_tree t ws in
      let rest : List ℕ = spaces i ++ (items_text (items_from (element_of t i ws) ts i more) i ++ after) in
      and_from _ _ (and_from _ _ (a rest) (g rest (below_items (element_of t i ws) ts i more after)))
      (elements_fit (element_of t i ws) ts i more after (apart t i ws) (λ r c. element_fits t i ws r h.0 f.0 c) h.1 f.1 b)

  -- members fit after a first one that does
  members_fit : (one : Pair) (ms : Members) (i : ℕ) (ws : List Trail) (bol : Bool) (after : List ℕ)
      → ((start : Bool) (rest : List ℕ) → Below i rest → pair_fits one i start rest ≡ true)
      → AreTextMembers ms → MembersFit ms i ws → Below i after → pairs_fit (pairs_from one ms i ws) i bol after ≡ true
  members_fit one no_member i ws bol after g h f b = g bol after b
  members_fit one (member key t ms) i ws bol after g h f b =
      let own : List Trail = after_key key ws in
      let more : List Trail = after_value t own in
      let value : Node = value_of t i own in
      let next : Pair = pair_of key (next_trail ws) value in
      and_from _ _ (g bol (spaces i ++ (pairs_text (pairs_from next ms i more) i ++ after))
      (below_pairs key value ms i ws more after))
      (members_fit next ms i more (i == 0) after
      (λ start r c. pair_of_fits key ws value i start r h.0 f.0 (value_fits t i own r h.1 f.1 c)) h.2 f.2 b)

-- a whole tree fits at the top
top_fits : (t : Tree) (ws : List Trail) (after : List ℕ) → IsTextTree t → TreeFits t ws → Below 0 after
    → node_fits (top_node t ws) 0 false true after ≡ true
top_fits (text value) ws after h f b =
    scalar_node_fits (inline []) 0 0 false true value (next_trail ws) after (omega arith) h (λ rest. refl) f b
top_fits (sequence no_element) ws after h f b = and_from _ _ refl (ends_fit (next_trail ws) after f)
top_fits (sequence (element t ts)) ws after h f b =
    and_from _ _ refl (elements_fit (element_of t 0 ws) ts 0 (after_tree t ws) after (apart t 0 ws)
    (λ rest c. element_fits t 0 ws rest h.0 f.0 c) h.1 f.1 b)
top_fits (mapping no_member) ws after h f b = and_from _ _ refl (ends_fit (next_trail ws) after f)
top_fits (mapping (member key t ms)) ws after h f b =
    let rest : List Trail = after_key key ws in
    and_from _ _ refl (members_fit (pair_of key (next_trail ws) (value_of t 0 rest)) ms 0 (after_value t rest) true after
    (λ bol later c. pair_of_fits key ws (value_of t 0 rest) 0 bol later h.0 f.0 (value_fits t 0 rest later h.1 f.1 c)) h.2 f.2 b)

-- the presentation of a tree with comments fits
pub presentation_fits : (lead : List Extra) (t : Tree) (ws : List Trail) → IsTextTree t → Fits lead t ws
    → fits (presentation_of lead t ws) ≡ true
presentation_fits lead t ws h f =
    and_from _ _ (and_from _ _ (extra_lines_fit lead _ f.before) (top_fits t ws [] h f.trails (omega arith, refl))) refl
