-- The presentation of a tree spells the tree's text in the plain form.
use Rattle.std.{proofs.Common.{◌≡◌, refl, sym, ◌∙◌, ap, append_assoc}, specs.Prelude.{ℕ, ◌+◌, Bool, true, false, cond, List, [], ◌∷◌, ◌++◌}}
use Rattle.std.specs.Prelude.{codes, flat_map}
use Rattle.yaml_forms.proofs.Prelude.{append-nil, spaces, Sep, sep_text, inline, plain, scalar, flow, node_text, Indented, indented_text}
use Rattle.yaml_forms.proofs.Prelude.{items_text, Pair, pair_text, pairs_text, Tree, text, sequence, mapping, Elements, no_element, element}
use Rattle.yaml_forms.proofs.Prelude.{Members, no_member, member, stream_text, scalar_lines, key_lines, feed, one_space, scalar_node}
use Rattle.yaml_forms.proofs.Prelude.{pair_of, at_start, two_more, item_regrouped, pair_regrouped, pair_spelled}
use Rattle.yaml_forms.proofs.PlainPresented.{value_node, element_of, value_of, items_from, pairs_from, top_node, presentation_of}
use Rattle.yaml_forms.specs.{CoreScalars.is_typed, PlainForm.{value_lines, elements_after, lines_after_dash, members_after, value_at}}
use Rattle.{yaml_forms.specs.PlainForm.plain_text, yaml_grammar.specs.FlowScalars.plain_text as plain_char}
use Rattle.yaml_recognizers.proofs.OneStyle.Spelled as style

-- plain characters spell themselves
plain_spelled : (value : List ℕ) → flat_map plain_char value ≡ value
plain_spelled [] = refl
plain_spelled (c ∷ cs) = ap (λ t. c ∷ t) (plain_spelled cs)

-- a value is spelled as the plain form writes it, where the one style spells a scalar so
value_spelled_by : (sep : Sep) (j : ℕ) (value : List ℕ) → node_text (scalar_node sep j value) ≡ sep_text sep ++ scalar_lines j value
    → node_text (value_node sep j value) ≡ sep_text sep ++ value_lines j value
value_spelled_by sep j value styled = by (is_typed value)
  where
    by : (b : Bool) → node_text (cond b (flow sep (scalar (plain value [])) (feed ∷ [])) (scalar_node sep j value))
        ≡ sep_text sep ++ cond b (value ++ codes "\n") (scalar_lines j value)
    by true = ap (λ t. (sep_text sep ++ t) ++ (10 ∷ [])) (append-nil _ ∙ plain_spelled value) ∙ append_assoc (sep_text sep) value (10 ∷ [])
    by false = styled

-- after one space, in a sequence or a mapping at the indentation i
value_after_space : (i : ℕ) (value : List ℕ) → node_text (value_node one_space (i + 2) value) ≡ 32 ∷ value_lines (i + 2) value
value_after_space i value = value_spelled_by one_space (i + 2) value (style.element_spelled (text value) i)

-- ---- trees

-- an item and those after it, regrouped
item_joined : (a s e b : List ℕ) → (a ++ s) ++ (codes "- " ++ e ++ b) ≡ a ++ (((s ++ codes "- ") ++ e) ++ b)
item_joined a s e b = append_assoc a s (codes "- " ++ e ++ b) ∙ ap (λ t. a ++ t) (sym (item_regrouped s e b))

-- a pair and those after it, regrouped
pair_joined : (a s k v b : List ℕ) → (a ++ s) ++ ((k ++ v) ++ b) ≡ a ++ (((s ++ k) ++ v) ++ b)
pair_joined a s k v b = append_assoc a s ((k ++ v) ++ b) ∙ ap (λ t. a ++ t) (sym (pair_regrouped s k v b))

mutual
  -- an element spells its lines
  pub element_spelled : (t : Tree) (i : ℕ) → indented_text (element_of t i) i ≡ 32 ∷ lines_after_dash t i
  element_spelled (text value) i = value_after_space i value
  element_spelled (sequence no_element) i = refl
  element_spelled (sequence (element t ts)) i =
      rw (two_more i, elements_spelled (element_of t (i + 2)) ts (i + 2), element_spelled t (i + 2))
  element_spelled (mapping no_member) i = refl
  element_spelled (mapping (member key t ms)) i =
      rw (
        two_more i,
        members_spelled (pair_of key (value_of t (i + 2))) ms (i + 2),
        pair_spelled key (value_of t (i + 2)) (i + 2),
        value_is_spelled t (i + 2),
      )

  -- a value is spelled as the one style writes it after the `:` of its key
  value_is_spelled : (t : Tree) (i : ℕ) → node_text (value_of t i) ≡ value_at t i
  value_is_spelled (text value) i = value_after_space i value
  value_is_spelled (sequence no_element) i = refl
  value_is_spelled (sequence (element t ts)) i = rw (elements_spelled (element_of t (i + 2)) ts (i + 2), element_spelled t (i + 2))
  value_is_spelled (mapping no_member) i = refl
  value_is_spelled (mapping (member key t ms)) i =
      rw (
        members_spelled (pair_of key (value_of t (i + 2))) ms (i + 2),
        pair_spelled key (value_of t (i + 2)) (i + 2),
        value_is_spelled t (i + 2),
      )

  -- a first element and further ones are spelled as the one style writes them
  elements_spelled : (one : Indented) (ts : Elements) (i : ℕ)
      → items_text (items_from one ts i) i ≡ 45 ∷ (indented_text one i ++ elements_after ts i)
  elements_spelled one no_element i = ap (λ x. 45 ∷ x) (sym (append-nil _))
  elements_spelled one (element t ts) i = rw (elements_spelled (element_of t i) ts i, element_spelled t i)
      (ap (λ x. 45 ∷ x) (item_joined (indented_text one i) (spaces i) (lines_after_dash t i) (elements_after ts i)))

  -- a first member and further ones are spelled as the one style writes them
  members_spelled : (one : Pair) (ms : Members) (i : ℕ) → pairs_text (pairs_from one ms i) i ≡ pair_text one i ++ members_after ms i
  members_spelled one no_member i = sym (append-nil _)
  members_spelled one (member key t ms) i =
      rw (members_spelled (pair_of key (value_of t i)) ms i, pair_spelled key (value_of t i) i, value_is_spelled t i)
      (pair_joined (pair_text one i) (spaces i) (key_lines i key) (value_at t i) (members_after ms i))

-- a node at the top spells the tree's text
top_spelled : (t : Tree) → node_text (top_node t) ≡ plain_text t
top_spelled (text value) = value_spelled_by (inline []) 2 value (style.top_spelled at_start (text value))
top_spelled (sequence no_element) = refl
top_spelled (sequence (element t ts)) = rw (elements_spelled (element_of t 0) ts 0, element_spelled t 0)
top_spelled (mapping no_member) = refl
top_spelled (mapping (member key t ms)) =
    rw (members_spelled (pair_of key (value_of t 0)) ms 0, pair_spelled key (value_of t 0) 0, value_is_spelled t 0)

-- the presentation of a tree spells its text
pub presentation_spelled : (t : Tree) → stream_text (presentation_of t) ≡ plain_text t
presentation_spelled t = append-nil _ ∙ top_spelled t
