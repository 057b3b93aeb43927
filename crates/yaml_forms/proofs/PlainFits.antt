-- The presentation of a tree in the plain form fits.
use Rattle.std.{proofs.Common.{◌≡◌, refl, ◌∙◌, ap, inl, inr, arith, ◌≤◌}, specs.Prelude.{ℕ, zero, suc, ◌+◌, Bool, true, false, cond, not}}
use Rattle.std.specs.Prelude.{◌&&◌, ◌||◌, ◌==◌, List, [], ◌∷◌, ◌++◌, codes, length, flat_map}
use Rattle.yaml_forms.proofs.Prelude.{list_all, append-nil, and_parts, and_from, or_left, or_right, or_cases, or_parts, not-true, le-leb}
use Rattle.yaml_forms.proofs.Prelude.{ltb-false, eqb-true, agree_below_at, not_from_false, false≢true, ns, white, is_in, indicator}
use Rattle.yaml_forms.proofs.Prelude.{line_break, IsText, first, spaces, starts_line, marker, Sep, sep_text, sep_fits, inline, FlowContext}
use Rattle.yaml_forms.proofs.Prelude.{outer, block_key, safe, plain, lines_text, plain_first, plain_run, scalar, flow_text, flow_fits}
use Rattle.yaml_forms.proofs.Prelude.{short_key, Node, flow, node_text, node_fits, items_text, items_fit, Indented, indented_text}
use Rattle.yaml_forms.proofs.Prelude.{indented_fits, node, Pair, pair_text, pair_fits, pairs_text, pairs_fit, asked, keyed, fits, Tree}
use Rattle.yaml_forms.proofs.Prelude.{text, sequence, mapping, Elements, no_element, element, Members, no_member, member, IsTextTree}
use Rattle.yaml_forms.proofs.Prelude.{AreTextElements, AreTextMembers, plain_in_style, letter, in_double_quotes, key_text, long_key}
use Rattle.yaml_forms.proofs.Prelude.{key_lines, feed, one_space, word_flow, scalar_node, pair_of, pair_spelled, word_flow_spelled}
use Rattle.yaml_forms.proofs.{Prelude.{two_more, of_letter, after_not}, TypedLemmas.{typed_char, typed_shape, typed_shaped, typed_low}}
use Rattle.yaml_forms.proofs.PlainPresented.{value_node, element_of, value_of, items_from, pairs_from, top_node, presentation_of}
use Rattle.yaml_forms.{proofs.PlainSpelled.element_spelled, specs.CoreScalars.is_typed}
use Rattle.{yaml_grammar.specs.FlowScalars.plain_text as plain_char, yaml_recognizers.proofs.OneStyle.ScalarsFit.{Below, Wide}}
use Rattle.yaml_recognizers.proofs.OneStyle.ScalarsFit.{no_marker_there, word_flow_fits, scalar_node_fits}

-- ---- plain scalars of other types than text

-- what holds of a character of one
abbrev in_run : ℕ → Bool
in_run x = ns x && not (is_in x (codes ":#")) && not (white x)

-- what holds of its first character
abbrev may_begin : ℕ → Bool
may_begin x = ns x && (not (indicator x) || (x == 45)) && not (white x)

-- a character of such a scalar may be within a plain one
run_tells : (x : ℕ) → typed_char x ≡ true → in_run x ≡ true
run_tells x h = after_not (typed_char x) (in_run x)
    (agree_below_at (λ y. not (typed_char y) || in_run y) (λ y. true) 128 x refl (typed_low x h)) h

-- and it may begin one, if it is a dash before something safe
begin_tells : (x : ℕ) → typed_char x ≡ true → may_begin x ≡ true
begin_tells x h = after_not (typed_char x) (may_begin x)
    (agree_below_at (λ y. not (typed_char y) || may_begin y) (λ y. true) 128 x refl (typed_low x h)) h

-- a plain scalar on one line spells its characters
word_spelled : (value : List ℕ) → lines_text plain_char value [] ≡ value
word_spelled value = append-nil _ ∙ same value
  where
    same : (cs : List ℕ) → flat_map plain_char cs ≡ cs
    same [] = refl
    same (c ∷ cs) = ap (λ t. c ∷ t) (same cs)

-- the rest of such a scalar fits as a run of a plain one
run_fits : (c : FlowContext) (prev : ℕ) (xs after : List ℕ) → Wide c → white prev ≡ false
    → list_all typed_char xs ≡ true → plain_run c prev xs after ≡ true
run_fits c prev [] after w p h = not_from_false _ p
run_fits c prev (x ∷ xs) after w p h =
    let q : (typed_char x ≡ true) × (list_all typed_char xs ≡ true) = and_parts _ _ h in
    let r : (ns x && not (is_in x (codes ":#")) ≡ true) × (not (white x) ≡ true) = and_parts _ _ (run_tells x q.0) in
    and_from _ _ (or_right (white x) _ (or_left _ _
    (or_left _ _ (ap (λ b. b && not (is_in x (codes ":#"))) (w x) ∙ r.0)))) (run_fits c x xs after w (not-true _ r.1) q.1)

-- two signs that are no two dashes and no two points begin no marker
two_signs : (x y z : ℕ) (rest : List ℕ) → not (x == 45) || not (y == 45) ≡ true
    → not (x == 46) || not (y == 46) ≡ true → marker (x ∷ y ∷ z ∷ rest) ≡ false
two_signs x y z rest d e = by (x == 45) (y == 45) (x == 46) (y == 46) refl refl refl refl d e
  where
    by : (a b u v : Bool) → (x == 45) ≡ a → (y == 45) ≡ b → (x == 46) ≡ u → (y == 46) ≡ v → not a || not b ≡ true → not u || not v ≡ true
        → marker (x ∷ y ∷ z ∷ rest) ≡ false
    by false b false v p q r t i j = rw (p, r)
    by false b true false p q r t i j = rw (p, r, t)
    by false b true true p q r t i j = absurd (false≢true j)
    by true false false v p q r t i j = rw (p, q, r)
    by true false true false p q r t i j = rw (p, q, r, t)
    by true false true true p q r t i j = absurd (false≢true j)
    by true true u v p q r t i j = absurd (false≢true i)

-- a text has no marker if what comes after a dash is no dash, and after a point no point
unmarked : (x : ℕ) (xs rest : List ℕ) → not (x == 45) || first (λ y. not (y == 45)) xs ≡ true
    → not (x == 46) || first (λ y. not (y == 46)) xs ≡ true
    → marker (x ∷ (xs ++ rest)) ≡ false
unmarked x [] rest d e = unmarked_alone x rest (not-true _ (alone (x == 45) d)) (not-true _ (alone (x == 46) e))
  where
    alone : (b : Bool) → not b || false ≡ true → not b ≡ true
    alone true h = h
    alone false h = refl

    unmarked_alone : (y : ℕ) (zs : List ℕ) → (y == 45) ≡ false → (y == 46) ≡ false → marker (y ∷ zs) ≡ false
    unmarked_alone y [] f g = refl
    unmarked_alone y (z ∷ []) f g = refl
    unmarked_alone y (z ∷ u ∷ zs) f g = rw (f, g)
unmarked x (y ∷ []) [] d e = refl
unmarked x (y ∷ []) (z ∷ rest) d e = two_signs x y z rest d e
unmarked x (y ∷ z ∷ xs) rest d e = two_signs x y z (xs ++ rest) d e

-- a first character of such a scalar begins a plain scalar
first_fits : (c : FlowContext) (x : ℕ) (xs after : List ℕ) → Wide c → typed_char x ≡ true → list_all typed_char xs ≡ true
    → not (x == 45) || first (λ y. not (y == 45)) xs ≡ true → plain_first c x (xs ++ after) ≡ true
first_fits c x xs after w h k d =
    let p : (ns x && (not (indicator x) || (x == 45)) ≡ true) × (not (white x) ≡ true) = and_parts _ _ (begin_tells x h) in
    let q : (ns x ≡ true) × (not (indicator x) || (x == 45) ≡ true) = and_parts _ _ p.0 in
    and_from _ _ q.0 (elim (or_cases (not (indicator x)) (x == 45) q.1) [
      | inl plain_sign ↦ or_left _ _ plain_sign
      | inr dash ↦ or_right (not (indicator x)) _
          (and_from _ _ (ap (λ y. is_in y (codes "?:-")) (eqb-true x 45 dash)) (next_safe xs k (after_dash dash)))
    ])
  where
    after_dash : (x == 45) ≡ true → first (λ y. not (y == 45)) xs ≡ true
    after_dash dash = (rw dash at d)

    next_safe : (ys : List ℕ) → list_all typed_char ys ≡ true → first (λ y. not (y == 45)) ys ≡ true → first (safe c) (ys ++ after) ≡ true
    next_safe [] a b = absurd (false≢true b)
    next_safe (y ∷ ys) a b = w y ∙ (and_parts _ _ (and_parts _ _ (run_tells y (and_parts _ _ a).0)).0).0

-- such a scalar begins no marker
spelled_unmarked : (x : ℕ) (xs after : List ℕ) → not (x == 45) || first (λ y. not (y == 45)) xs ≡ true
    → not (x == 46) || first (λ y. not (y == 46)) xs ≡ true
    → marker (lines_text plain_char (x ∷ xs) [] ++ after) ≡ false
spelled_unmarked x xs after d e = ap (λ t. marker (t ++ after)) (word_spelled (x ∷ xs)) ∙ unmarked x xs after d e

-- such a scalar fits as a plain one
typed_fits : (value : List ℕ) (n : ℕ) (c : FlowContext) (bol : Bool) (after : List ℕ) → Wide c → is_typed value ≡ true
    → flow_fits (scalar (plain value [])) n c bol after ≡ true
typed_fits value n c bol after w h = by value (typed_shaped value h)
  where
    by : (cs : List ℕ) → typed_shape cs ≡ true → flow_fits (scalar (plain cs [])) n c bol after ≡ true
    by [] s = absurd (false≢true s)
    by (x ∷ xs) s =
        let p : (typed_char x && list_all typed_char xs && (not (x == 45) || first (λ y. not (y == 45)) xs) ≡ true)
        × (not (x == 46) || first (λ y. not (y == 46)) xs ≡ true) = and_parts _ _ s in
        let q : (typed_char x && list_all typed_char xs ≡ true)
        × (not (x == 45) || first (λ y. not (y == 45)) xs ≡ true) = and_parts _ _ p.0 in
        let r : (typed_char x ≡ true) × (list_all typed_char xs ≡ true) = and_parts _ _ q.0 in
        let solid : white x ≡ false = not-true _ (and_parts _ _ (begin_tells x r.0)).1 in
        and_from _ _ (and_from _ _ (and_from _ _ (no_marker_there bol (lines_text plain_char (x ∷ xs) [] ++ after)
        (spelled_unmarked x xs after q.1 p.1)) (and_from _ _ (first_fits c x xs after w r.0 r.1 q.1)
        (run_fits c x xs after w solid r.1))) refl) refl

-- a value fits as a node
value_node_fits : (sep : Sep) (i m : ℕ) (shallow bol : Bool) (value after : List ℕ) → m ≤ i + 2 → IsText value
    → ((rest : List ℕ) → sep_fits m false bol sep rest ≡ true) → Below i after
    → node_fits (value_node sep (i + 2) value) m shallow bol after ≡ true
value_node_fits sep i m shallow bol value after l t s b = by (is_typed value) refl
  where
    by : (b : Bool) → is_typed value ≡ b → node_fits
        (cond b (flow sep (scalar (plain value [])) (feed ∷ [])) (scalar_node sep (i + 2) value)) m shallow bol after ≡ true
    by true e = and_from _ _ (and_from _ _ (s (flow_text (scalar (plain value [])) ++ (10 ∷ after)))
        (typed_fits value m outer (starts_line bol (sep_text sep)) (10 ∷ after) (λ x. refl) e)) refl
    by false e = scalar_node_fits sep i m shallow bol value after l t s b

-- ---- what comes after

-- a character that begins a line's contents
abbrev solid : ℕ → Bool
solid c = not ((c == 32) || line_break c)

-- something solid after i spaces is no deeper than i
below_solid : (i : ℕ) (after : List ℕ) → first solid after ≡ true → Below i (spaces i ++ after)
below_solid zero [] h = absurd (false≢true h)
below_solid zero (c ∷ cs) h =
    let p : (c == 32 ≡ false) × (line_break c ≡ false) = or_parts _ _ (not-true _ h) in
    rw p.0 (omega arith, p.1)
below_solid (suc i) after h = let b : Below i (spaces i ++ after) = below_solid i after h in (omega (arith, b.0), b.1)

-- what is no deeper than i is no deeper than i + 2
below_more : (i : ℕ) (after : List ℕ) → Below i after → Below (i + 2) after
below_more i after b = (omega (arith, b.0), b.1)

-- items begin with something solid
items_begin : (one : Indented) (ts : Elements) (i : ℕ) (after : List ℕ) → first solid (items_text (items_from one ts i) i ++ after) ≡ true
items_begin one no_element i after = refl
items_begin one (element t ts) i after = refl

-- the first element of two lists, joined, is that of the first, if it has one
first_joined : (p : ℕ → Bool) (prefix after : List ℕ) → first p prefix ≡ true → first p (prefix ++ after) ≡ true
first_joined p [] after h = absurd (false≢true h)
first_joined p (c ∷ cs) after h = h

-- ---- pairs

-- a key begins with a letter, a quote or `?`
letter_solid : (key : List ℕ) → first letter key ≡ true → first solid key ≡ true
letter_solid [] h = absurd (false≢true h)
letter_solid (c ∷ cs) h = of_letter solid c refl h

-- a key as it is written begins with something solid
key_begins : (i : ℕ) (key : List ℕ) → first solid (key_lines i key) ≡ true
key_begins i key = by (long_key key) (plain_in_style key) refl
  where
    by : (l p : Bool) → plain_in_style key ≡ p
        → first solid (cond l (codes "? " ++ key_text key ++ codes "\n" ++ spaces i ++ codes ":")
        (cond p key (in_double_quotes key) ++ codes ":")) ≡ true
    by true p e = refl
    by false true e = first_joined solid key _ (letter_solid key (and_parts _ _ (and_parts _ _ (and_parts _ _ e).0).0).0)
    by false false e = refl

-- a pair begins with something solid
pair_begins : (key : List ℕ) (value : Node) (i : ℕ) → first solid (pair_text (pair_of key value) i) ≡ true
pair_begins key value i = rw (pair_spelled key value i) (first_joined solid (key_lines i key) (node_text value) (key_begins i key))

-- and so do pairs
pairs_begin : (one : Pair) (ms : Members) (i : ℕ) → first solid (pair_text one i) ≡ true
    → first solid (pairs_text (pairs_from one ms i) i) ≡ true
pairs_begin one no_member i h = h
pairs_begin one (member key t ms) i h = first_joined solid (pair_text one i ++ spaces i) _
    (first_joined solid (pair_text one i) (spaces i) h)

-- a pair fits, if its value does
pair_of_fits : (key : List ℕ) (value : Node) (i : ℕ) (bol : Bool) (after : List ℕ) → IsText key
    → node_fits value (suc i) true false after ≡ true
    → pair_fits (pair_of key value) i bol after ≡ true
pair_of_fits key value i bol after t h = by (long_key key) refl
  where
    by : (b : Bool) → long_key key ≡ b → pair_fits
        (cond b (asked (node (flow one_space (word_flow key) (feed ∷ []))) (node value))
        (keyed (word_flow key) [] value)) i bol after ≡ true
    by true e = and_from _ _ (and_from _ _ refl
        (and_from _ _ (and_from _ _ refl (word_flow_fits key (suc i) outer false
        (10 ∷ (spaces i ++ (58 ∷ (node_text value ++ after)))) (λ x. refl) t)) refl)) h
    by false e =
        let long : length (key_text key) ≤ 1000 = ltb-false 1000 (length (key_text key)) e in
        let same : flow_text (word_flow key) ++ [] ≡ key_text key = append-nil _ ∙ word_flow_spelled key in
        let short : short_key (word_flow key) [] ≡ true = rw same (le-leb (length (key_text key)) 1024 (omega (arith, long))) in
        and_from _ _ (and_from _ _ (and_from _ _ (word_flow_fits key 0 block_key bol (58 ∷ (node_text value ++ after))
        (λ x. refl) t) refl) short) h

-- ---- trees

-- whitespace or a line break comes after the `-` of an element
apart : (t : Tree) (i : ℕ) (rest : List ℕ) → not (first ns (indented_text (element_of t i) i ++ rest)) ≡ true
apart t i rest = rw (element_spelled t i)

mutual
  -- an element fits after its `-`
  element_fits : (t : Tree) (i : ℕ) (after : List ℕ) → IsTextTree t → Below i after → indented_fits (element_of t i) i false after ≡ true
  element_fits (text value) i after h b = value_node_fits one_space i (suc i) false false value after (omega arith) h (λ rest. refl) b
  element_fits (sequence no_element) i after h b = refl
  element_fits (sequence (element t ts)) i after h b =
      rw (two_more i) (elements_fit (element_of t (i + 2)) ts (i + 2) after (apart t (i + 2))
      (λ rest c. element_fits t (i + 2) rest h.0 c) h.1 (below_more i after b))
  element_fits (mapping no_member) i after h b = refl
  element_fits (mapping (member key t ms)) i after h b =
      rw (two_more i) (members_fit (pair_of key (value_of t (i + 2))) ms (i + 2) false after
      (λ bol rest c. pair_of_fits key (value_of t (i + 2)) (i + 2) bol rest h.0 (value_fits t (i + 2) rest h.1 c)) h.2
      (below_more i after b))

  -- a value fits after the `:` of its key
  value_fits : (t : Tree) (i : ℕ) (after : List ℕ) → IsTextTree t → Below i after → node_fits (value_of t i) (suc i) true false after ≡ true
  value_fits (text value) i after h b = value_node_fits one_space i (suc i) true false value after (omega arith) h (λ rest. refl) b
  value_fits (sequence no_element) i after h b = refl
  value_fits (sequence (element t ts)) i after h b =
      and_from _ _ (and_from _ _ refl (le-leb (suc i) (suc (i + 2)) (omega arith)))
      (elements_fit (element_of t (i + 2)) ts (i + 2) after (apart t (i + 2))
      (λ rest c. element_fits t (i + 2) rest h.0 c) h.1 (below_more i after b))
  value_fits (mapping no_member) i after h b = refl
  value_fits (mapping (member key t ms)) i after h b =
      and_from _ _ (and_from _ _ refl (le-leb (suc i) (i + 2) (omega arith)))
      (members_fit (pair_of key (value_of t (i + 2))) ms (i + 2) (i + 2 == 0) after
      (λ bol rest c. pair_of_fits key (value_of t (i + 2)) (i + 2) bol rest h.0 (value_fits t (i + 2) rest h.1 c)) h.2
      (below_more i after b))

  -- elements fit after a first one that does
  elements_fit : (one : Indented) (ts : Elements) (i : ℕ) (after : List ℕ)
      → ((rest : List ℕ) → not (first ns (indented_text one i ++ rest)) ≡ true)
      → ((rest : List ℕ) → Below i rest → indented_fits one i false rest ≡ true) → AreTextElements ts → Below i after
      → items_fit (items_from one ts i) i after ≡ true
  elements_fit one no_element i after a f h b = and_from _ _ (a after) (f after b)
  elements_fit one (element t ts) i after a f h b =
      let rest : List ℕ = spaces i ++ (items_text (items_from (element_of t i) ts i) i ++ after) in
      and_from _ _ (and_from _ _ (a rest) (f rest (below_solid i _ (items_begin (element_of t i) ts i after))))
      (elements_fit (element_of t i) ts i after (apart t i) (λ r c. element_fits t i r h.0 c) h.1 b)

  -- members fit after a first one that does
  members_fit : (one : Pair) (ms : Members) (i : ℕ) (bol : Bool) (after : List ℕ)
      → ((start : Bool) (rest : List ℕ) → Below i rest → pair_fits one i start rest ≡ true)
      → AreTextMembers ms → Below i after → pairs_fit (pairs_from one ms i) i bol after ≡ true
  members_fit one no_member i bol after f h b = f bol after b
  members_fit one (member key t ms) i bol after f h b =
      let rest : List ℕ = spaces i ++ (pairs_text (pairs_from (pair_of key (value_of t i)) ms i) i ++ after) in
      and_from _ _ (f bol rest (below_solid i _ (first_joined solid
      (pairs_text (pairs_from (pair_of key (value_of t i)) ms i) i) after
      (pairs_begin (pair_of key (value_of t i)) ms i (pair_begins key (value_of t i) i)))))
      (members_fit (pair_of key (value_of t i)) ms i (i == 0) after
      (λ start r c. pair_of_fits key (value_of t i) i start r h.0 (value_fits t i r h.1 c)) h.2 b)

-- a whole tree fits
top_fits : (t : Tree) → IsTextTree t → node_fits (top_node t) 0 false true [] ≡ true
top_fits (text value) h = value_node_fits (inline []) 0 0 false true value [] (omega arith) h (λ rest. refl) (omega arith, refl)
top_fits (sequence no_element) h = refl
top_fits (sequence (element t ts)) h =
    and_from _ _ (and_from _ _ refl refl) (elements_fit (element_of t 0) ts 0 [] (apart t 0)
    (λ rest c. element_fits t 0 rest h.0 c) h.1 (omega arith, refl))
top_fits (mapping no_member) h = refl
top_fits (mapping (member key t ms)) h =
    and_from _ _ (and_from _ _ refl refl)
    (members_fit (pair_of key (value_of t 0)) ms 0 true []
    (λ bol rest c. pair_of_fits key (value_of t 0) 0 bol rest h.0 (value_fits t 0 rest h.1 c)) h.2 (omega arith, refl))

-- the presentation of a tree fits
pub presentation_fits : (t : Tree) → IsTextTree t → fits (presentation_of t) ≡ true
presentation_fits t h = and_from _ _ (and_from _ _ refl (top_fits t h)) refl
