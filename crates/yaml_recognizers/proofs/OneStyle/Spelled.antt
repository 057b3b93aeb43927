-- The presentation of a tree spells the tree's text in the one style.
use Rattle.std.{proofs.Common.{◌≡◌, refl, sym, ◌∙◌, ap, inl, inr, append_assoc, arith}, specs.Prelude.{ℕ, zero, suc, ◌+◌, ◌/◌, ◌%◌, Bool}}
use Rattle.std.specs.Prelude.{true, false, cond, not, ◌&&◌, ◌||◌, nat_le, ◌==◌, List, [], ◌∷◌, ◌++◌, codes, flat_map}
use Rattle.yaml_recognizers.proofs.Prelude.{append-nil, cases_Bool, and_parts, or_parts, not-true, in_range, is_in, list_all, spaces, first}
use Rattle.yaml_recognizers.proofs.Prelude.{Sep, sep_text, raw, escape, number, quoted_char_text, plain_text, plain, double, scalar_text}
use Rattle.yaml_recognizers.proofs.Prelude.{scalar, flow_text, chomping_text, block_empties_text, text_lines_text, block_text, flow, block}
use Rattle.yaml_recognizers.proofs.Prelude.{Node, node_text, Indented, indented_text, items_text, Pair, pair_text, pairs_text, asked, keyed}
use Rattle.yaml_recognizers.proofs.Prelude.{node, Tree, text, sequence, mapping, Elements, no_element, element, Members, no_member, member}
use Rattle.yaml_recognizers.proofs.Prelude.{stream_text, plain_in_style, literal_in_style, shown, shown_or_feed, space_or_feed, hex}
use Rattle.yaml_recognizers.proofs.Prelude.{letter_escape, quoted_char, quoted_chars, in_double_quotes, literal_mark, literal_lines}
use Rattle.yaml_recognizers.proofs.Prelude.{feeds_at_end, scalar_lines, key_text, long_key, key_lines, elements_after, lines_after_dash}
use Rattle.yaml_recognizers.proofs.{Prelude.{members_after, value_at, style_text}, OneStyle.Presented.{feed, one_space, item_of}}
use Rattle.yaml_recognizers.proofs.OneStyle.Presented.{items_of_text, word_flow, bare_empties, held_by, empties_in, lines_in, chomping_of}
use Rattle.yaml_recognizers.proofs.OneStyle.Presented.{literal_block, scalar_node, pair_of, element_of, value_of, items_from, pairs_from}
use Rattle.yaml_recognizers.proofs.OneStyle.Presented.{Place, at_start, after_marker, place_sep, top_node, presentation_of}
use Rattle.yaml_recognizers.{proofs.OneStyle.Presented.framed_presentation_of, specs.Closings.framed_text}

-- ---- scalars on one line

-- the text of a character that is chosen by tests is chosen by the same tests
item_cases : (a b c d : Bool) (x e : ℕ) (short long : List ℕ)
    → quoted_char_text (cond a (escape x) (cond b (raw x) (cond c (escape e) (cond d (number 120 short) (number 117 long)))))
    ≡ cond a (92 ∷ x ∷ []) (cond b (x ∷ []) (cond c (92 ∷ e ∷ []) (cond d (92 ∷ 120 ∷ short) (92 ∷ 117 ∷ long))))
item_cases true b c d x e short long = refl
item_cases false true c d x e short long = refl
item_cases false false true d x e short long = refl
item_cases false false false true x e short long = refl
item_cases false false false false x e short long = refl

-- a character between double quotes is spelled as the one style writes it
item_spelled : (c : ℕ) → quoted_char_text (item_of c) ≡ quoted_char c
item_spelled c =
    item_cases ((c == 34) || (c == 92)) (shown c) ((c == 0) || in_range 7 13 c || (c == 27)) (nat_le c 0xff) c (letter_escape c)
    (hex (c / 16) ∷ hex (c % 16) ∷ []) (hex (c / 4096) ∷ hex (c / 256 % 16) ∷ hex (c / 16 % 16) ∷ hex (c % 16) ∷ [])

-- and so are the characters of a text
items_spelled : (value : List ℕ) → flat_map quoted_char_text (items_of_text value) ≡ quoted_chars value
items_spelled [] = refl
items_spelled (c ∷ cs) = rw (item_spelled c, items_spelled cs)

-- plain characters spell themselves
plain_spelled : (value : List ℕ) → flat_map plain_text value ≡ value
plain_spelled [] = refl
plain_spelled (c ∷ cs) = ap (λ t. c ∷ t) (plain_spelled cs)

-- a plain scalar on one line spells itself
word_spelled : (value : List ℕ) → scalar_text (plain value []) ≡ value
word_spelled value = append-nil _ ∙ plain_spelled value

-- a text between double quotes is spelled as the one style writes it
quoted_spelled : (value : List ℕ) → scalar_text (double (items_of_text value) []) ≡ 34 ∷ (quoted_chars value ++ (34 ∷ []))
quoted_spelled value = ap (λ t. 34 ∷ (t ++ (34 ∷ []))) (append-nil _ ∙ items_spelled value)

-- a key spells the key's text
pub word_flow_spelled : (key : List ℕ) → flow_text (word_flow key) ≡ key_text key
word_flow_spelled key = by (plain_in_style key)
  where
    by : (b : Bool) → flow_text (scalar (cond b (plain key []) (double (items_of_text key) [])))
        ≡ cond b key (34 ∷ (quoted_chars key ++ (34 ∷ [])))
    by true = word_spelled key
    by false = quoted_spelled key

-- ---- literals

mutual
  -- from the start of a line on
  fresh_spelled : (j : ℕ) (cs : List ℕ) → block_empties_text (bare_empties (empties_in true cs))
      ++ text_lines_text j (lines_in true cs) ≡ literal_lines j true cs
  fresh_spelled j [] = refl
  fresh_spelled j (c ∷ cs) = elim (cases_Bool (c == 10)) [
    | inl e ↦ rw e (ap (λ t. 10 ∷ t) (fresh_spelled j cs))
    | inr e ↦ rw e (simp append_assoc (ap (λ t. spaces j ++ (c ∷ t)) (line_spelled j cs)))
  ]

  -- from a place within a line on
  line_spelled : (j : ℕ) (cs : List ℕ) → held_by cs
      ++ (10 ∷ (block_empties_text (bare_empties (empties_in false cs)) ++ text_lines_text j (lines_in false cs)))
      ≡ literal_lines j false cs
  line_spelled j [] = refl
  line_spelled j (c ∷ cs) = elim (cases_Bool (c == 10)) [
    | inl e ↦ rw e (ap (λ t. 10 ∷ t) (fresh_spelled j cs))
    | inr e ↦ rw e (ap (λ t. c ∷ t) (line_spelled j cs))
  ]

-- ---- values

-- the header of a literal is spelled as the one style writes it
mark_spelled : (n : ℕ) (rest : List ℕ) → (124 ∷ (chomping_text (chomping_of n) ++ (10 ∷ []))) ++ rest
    ≡ (literal_mark n ++ (10 ∷ [])) ++ rest
mark_spelled zero rest = refl
mark_spelled (suc zero) rest = refl
mark_spelled (suc (suc n)) rest = refl

-- a literal has no empty line before its first text line
no_empties : (value : List ℕ) → first space_or_feed value ≡ false → empties_in true value ≡ 0
no_empties [] h = refl
no_empties (c ∷ cs) h = let e : (c == 10) ≡ false = (or_parts (c == 32) (c == 10) h).1 in rw e

-- a literal is spelled as the one style writes it
literal_spelled : (j : ℕ) (value : List ℕ) → literal_in_style value ≡ true
    → block_text (literal_block j value) ≡ (literal_mark (feeds_at_end value) ++ (10 ∷ [])) ++ literal_lines j true value
literal_spelled j value h =
    let p : (is_in 10 value && not (first space_or_feed value) ≡ true) × (list_all shown_or_feed value ≡ true) = and_parts _ _ h in
    let none : empties_in true value ≡ 0 = no_empties value (not-true _ (and_parts _ _ p.0).1) in
    let lines : text_lines_text j (lines_in true value) ≡ literal_lines j true value = (rw none at (fresh_spelled j value)) in
    append-nil _ ∙ (mark_spelled (feeds_at_end value) (text_lines_text j (lines_in true value))
    ∙ ap (λ t. (literal_mark (feeds_at_end value) ++ (10 ∷ [])) ++ t) lines)

-- a scalar is spelled as the one style writes it
scalar_spelled : (sep : Sep) (j : ℕ) (value : List ℕ) → node_text (scalar_node sep j value) ≡ sep_text sep ++ scalar_lines j value
scalar_spelled sep j value = by (plain_in_style value) (literal_in_style value) refl
  where
    by : (p l : Bool) → literal_in_style value ≡ l
        → node_text (cond p (flow sep (scalar (plain value [])) (feed ∷ []))
        (cond l (block sep (literal_block j value)) (flow sep (scalar (double (items_of_text value) [])) (feed ∷ []))))
        ≡ sep_text sep ++ cond p (value ++ codes "\n")
        (cond l (literal_mark (feeds_at_end value) ++ codes "\n" ++ literal_lines j true value)
        (in_double_quotes value ++ codes "\n"))
    by true l e = ap (λ t. (sep_text sep ++ t) ++ (10 ∷ [])) (word_spelled value) ∙ append_assoc (sep_text sep) value (10 ∷ [])
    by false true e = ap (λ t. sep_text sep ++ t) (literal_spelled j value e)
    by false false e = ap (λ t. (sep_text sep ++ t) ++ (10 ∷ [])) (quoted_spelled value)
        ∙ append_assoc (sep_text sep) (in_double_quotes value) (10 ∷ [])

-- ---- keys

-- a pair spells the key's lines and its value
pub pair_spelled : (key : List ℕ) (value : Node) (i : ℕ) → pair_text (pair_of key value) i ≡ key_lines i key ++ node_text value
pair_spelled key value i = by (long_key key)
  where
    by : (b : Bool) → pair_text (cond b (asked (node (flow one_space (word_flow key) (feed ∷ []))) (node value))
        (keyed (word_flow key) [] value)) i
        ≡ cond b (codes "? " ++ key_text key ++ codes "\n" ++ spaces i ++ codes ":") (key_text key ++ codes ":") ++ node_text value
    by true = ap (λ k. ((((codes "? " ++ k) ++ codes "\n") ++ spaces i) ++ codes ":") ++ node_text value) (word_flow_spelled key)
    by false = ap (λ k. (k ++ codes ":") ++ node_text value) (append-nil _ ∙ word_flow_spelled key)

-- ---- trees

-- one more and one more is two more
pub two_more : (i : ℕ) → i + 1 + 1 ≡ i + 2
two_more i = omega arith

-- a further item, or pair, after the spaces that lead it
pub item_regrouped : (s e b : List ℕ) → ((s ++ codes "- ") ++ e) ++ b ≡ s ++ (codes "- " ++ e ++ b)
item_regrouped s e b = append_assoc (s ++ codes "- ") e b ∙ append_assoc s (codes "- ") (e ++ b)

-- four texts, joined in two ways
pub pair_regrouped : (s k v b : List ℕ) → ((s ++ k) ++ v) ++ b ≡ s ++ ((k ++ v) ++ b)
pair_regrouped s k v b = ap (λ t. t ++ b) (append_assoc s k v) ∙ append_assoc s (k ++ v) b

-- an item and those after it, regrouped
item_joined : (a s e b : List ℕ) → (a ++ s) ++ (codes "- " ++ e ++ b) ≡ a ++ (((s ++ codes "- ") ++ e) ++ b)
item_joined a s e b = append_assoc a s (codes "- " ++ e ++ b) ∙ ap (λ t. a ++ t) (sym (item_regrouped s e b))

-- a pair and those after it, regrouped
pair_joined : (a s k v b : List ℕ) → (a ++ s) ++ ((k ++ v) ++ b) ≡ a ++ (((s ++ k) ++ v) ++ b)
pair_joined a s k v b = append_assoc a s ((k ++ v) ++ b) ∙ ap (λ t. a ++ t) (sym (pair_regrouped s k v b))

mutual
  -- an element spells its lines
  pub element_spelled : (t : Tree) (i : ℕ) → indented_text (element_of t i) i ≡ 32 ∷ lines_after_dash t i
  element_spelled (text value) i = scalar_spelled one_space (i + 2) value
  element_spelled (sequence no_element) i = refl
  element_spelled (sequence (element t ts)) i =
      rw (two_more i, elements_spelled (element_of t (i + 2)) ts (i + 2), element_spelled t (i + 2))
  element_spelled (mapping no_member) i = refl
  element_spelled (mapping (member key t ms)) i =
      rw (
        two_more i,
        members_spelled (pair_of key (value_of t (i + 2))) ms (i + 2),
        pair_spelled key (value_of t (i + 2)) (i + 2),
        value_spelled t (i + 2),
      )

  -- a value is spelled as the one style writes it after the `:` of its key
  value_spelled : (t : Tree) (i : ℕ) → node_text (value_of t i) ≡ value_at t i
  value_spelled (text value) i = scalar_spelled one_space (i + 2) value
  value_spelled (sequence no_element) i = refl
  value_spelled (sequence (element t ts)) i = rw (elements_spelled (element_of t (i + 2)) ts (i + 2), element_spelled t (i + 2))
  value_spelled (mapping no_member) i = refl
  value_spelled (mapping (member key t ms)) i =
      rw (
        members_spelled (pair_of key (value_of t (i + 2))) ms (i + 2),
        pair_spelled key (value_of t (i + 2)) (i + 2),
        value_spelled t (i + 2),
      )

  -- a first element and further ones are spelled as the one style writes them
  elements_spelled : (one : Indented) (ts : Elements) (i : ℕ)
      → items_text (items_from one ts i) i ≡ 45 ∷ (indented_text one i ++ elements_after ts i)
  elements_spelled one no_element i = ap (λ x. 45 ∷ x) (sym (append-nil _))
  elements_spelled one (element t ts) i = rw (elements_spelled (element_of t i) ts i, element_spelled t i)
      (ap (λ x. 45 ∷ x) (item_joined (indented_text one i) (spaces i) (lines_after_dash t i) (elements_after ts i)))

  -- a first member and further ones are spelled as the one style writes them
  members_spelled : (one : Pair) (ms : Members) (i : ℕ) → pairs_text (pairs_from one ms i) i ≡ pair_text one i ++ members_after ms i
  members_spelled one no_member i = sym (append-nil _)
  members_spelled one (member key t ms) i =
      rw (members_spelled (pair_of key (value_of t i)) ms i, pair_spelled key (value_of t i) i, value_spelled t i)
      (pair_joined (pair_text one i) (spaces i) (key_lines i key) (value_at t i) (members_after ms i))

-- what comes before a node at the top
abbrev pub place_text : Place → List ℕ
place_text at_start = []
place_text after_marker = codes "\n"

-- a node at the top spells the tree's text
pub top_spelled : (place : Place) (t : Tree) → node_text (top_node place t) ≡ place_text place ++ style_text t
top_spelled at_start (text value) = scalar_spelled (place_sep at_start) 2 value
top_spelled after_marker (text value) = scalar_spelled (place_sep after_marker) 2 value
top_spelled at_start (sequence no_element) = refl
top_spelled after_marker (sequence no_element) = refl
top_spelled at_start (sequence (element t ts)) = rw (elements_spelled (element_of t 0) ts 0, element_spelled t 0)
top_spelled after_marker (sequence (element t ts)) = rw (elements_spelled (element_of t 0) ts 0, element_spelled t 0)
top_spelled at_start (mapping no_member) = refl
top_spelled after_marker (mapping no_member) = refl
top_spelled at_start (mapping (member key t ms)) =
    rw (members_spelled (pair_of key (value_of t 0)) ms 0, pair_spelled key (value_of t 0) 0, value_spelled t 0)
top_spelled after_marker (mapping (member key t ms)) =
    rw (members_spelled (pair_of key (value_of t 0)) ms 0, pair_spelled key (value_of t 0) 0, value_spelled t 0)

-- the presentation of a tree spells its text
pub presentation_spelled : (t : Tree) → stream_text (presentation_of t) ≡ style_text t
presentation_spelled t = append-nil _ ∙ top_spelled at_start t

-- the framed one spells the framed text
pub framed_spelled : (t : Tree) → stream_text (framed_presentation_of t) ≡ framed_text t
framed_spelled t = ap (λ s. (codes "---" ++ s) ++ codes "...\n") (top_spelled after_marker t)
