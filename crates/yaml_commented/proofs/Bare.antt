-- Without comments and empty lines the text of a tree is that of the one style.
use Rattle.std.{proofs.{Common.{◌≡◌, refl, ap}, lemmas.{Bool.cond_both, List.append-nil}}, specs.Prelude.{ℕ, ◌+◌, Bool, true, false, cond}}
use Rattle.std.specs.{Prelude.{List, [], ◌∷◌, ◌++◌, codes}, List.AllByRecursion}
use Rattle.yaml_grammar.specs.Trees.{Tree, text, sequence, mapping, Elements, no_element, element, Members, no_member, member}
use Rattle.yaml_grammar.specs.Style.{plain_in_style, literal_in_style, in_double_quotes, literal_mark, literal_lines, feeds_at_end}
use Rattle.yaml_grammar.specs.Style.{long_key, key_lines, scalar_lines, elements_after, lines_after_dash, members_after, value_at}
use Rattle.yaml_commented.specs.{Trails.{Trail, no_trail, IsBare}, Commented.{next_trail, later_trails, after_key, after_tree, after_value}}
use Rattle.yaml_commented.specs.Commented.{after_elements, after_members, scalar_with, key_with, element_with, value_with, elements_with}
use Rattle.yaml_commented.specs.{Commented.members_with, CommentedLaws.BareIsStyle}

-- each of the trails is bare
abbrev Bare : List Trail → Type 0
Bare ws = AllByRecursion IsBare ws

-- ---- trails that are left

-- the next one is bare
next_bare : (ws : List Trail) → Bare ws → next_trail ws ≡ no_trail
next_bare [] b = refl
next_bare (w ∷ ws) b = b.0

-- those after it are bare
later_bare : (ws : List Trail) → Bare ws → Bare (later_trails ws)
later_bare [] b = tt
later_bare (w ∷ ws) b = b.1

-- those after a key are bare
key_bare : (key : List ℕ) (ws : List Trail) → Bare ws → Bare (after_key key ws)
key_bare key ws b = cond_both (long_key key) _ _ Bare (λ e. later_bare ws b) (λ e. b)

mutual
  -- those after a tree are bare
  tree_bare : (t : Tree) (ws : List Trail) → Bare ws → Bare (after_tree t ws)
  tree_bare (text value) ws b = later_bare ws b
  tree_bare (sequence no_element) ws b = later_bare ws b
  tree_bare (sequence (element t ts)) ws b = elements_bare ts (after_tree t ws) (tree_bare t ws b)
  tree_bare (mapping no_member) ws b = later_bare ws b
  tree_bare (mapping (member key t ms)) ws b =
      members_bare ms (after_value t (after_key key ws)) (value_bare t (after_key key ws) (key_bare key ws b))

  -- those after a value are bare
  value_bare : (t : Tree) (ws : List Trail) → Bare ws → Bare (after_value t ws)
  value_bare (text value) ws b = later_bare ws b
  value_bare (sequence no_element) ws b = later_bare ws b
  value_bare (sequence (element t ts)) ws b =
      elements_bare ts (after_tree t (later_trails ws)) (tree_bare t (later_trails ws) (later_bare ws b))
  value_bare (mapping no_member) ws b = later_bare ws b
  value_bare (mapping (member key t ms)) ws b =
      let rest : List Trail = after_key key (later_trails ws) in
      members_bare ms (after_value t rest) (value_bare t rest (key_bare key (later_trails ws) (later_bare ws b)))

  -- those after elements are bare
  elements_bare : (ts : Elements) (ws : List Trail) → Bare ws → Bare (after_elements ts ws)
  elements_bare no_element ws b = b
  elements_bare (element t ts) ws b = elements_bare ts (after_tree t ws) (tree_bare t ws b)

  -- those after members are bare
  members_bare : (ms : Members) (ws : List Trail) → Bare ws → Bare (after_members ms ws)
  members_bare no_member ws b = b
  members_bare (member key t ms) ws b =
      members_bare ms (after_value t (after_key key ws)) (value_bare t (after_key key ws) (key_bare key ws b))

-- ---- texts

-- a scalar's text is that of the one style
scalar_same : (j : ℕ) (value : List ℕ) (ws : List Trail) → Bare ws → scalar_with j value (next_trail ws) ≡ scalar_lines j value
scalar_same j value ws b = rw (next_bare ws b) (by (plain_in_style value) (literal_in_style value))
  where
    by : (p l : Bool) → cond p (value ++ codes "\n")
        (cond l (literal_mark (feeds_at_end value) ++ codes "\n" ++ literal_lines j true value ++ [])
        (in_double_quotes value ++ codes "\n"))
        ≡ cond p (value ++ codes "\n")
        (cond l (literal_mark (feeds_at_end value) ++ codes "\n" ++ literal_lines j true value)
        (in_double_quotes value ++ codes "\n"))
    by true l = refl
    by false true = append-nil _
    by false false = refl

-- a key's text is that of the one style
key_same : (i : ℕ) (key : List ℕ) (ws : List Trail) → Bare ws → key_with i key ws ≡ key_lines i key
key_same i key ws b = rw (next_bare ws b)

mutual
  -- so are an element's lines
  element_same : (t : Tree) (i : ℕ) (ws : List Trail) → Bare ws → element_with t i ws ≡ lines_after_dash t i
  element_same (text value) i ws b = scalar_same (i + 2) value ws b
  element_same (sequence no_element) i ws b = rw (next_bare ws b)
  element_same (sequence (element t ts)) i ws b =
      rw (element_same t (i + 2) ws b, elements_same ts (i + 2) (after_tree t ws) (tree_bare t ws b))
  element_same (mapping no_member) i ws b = rw (next_bare ws b)
  element_same (mapping (member key t ms)) i ws b =
      let rest : List Trail = after_key key ws in
      let c : Bare rest = key_bare key ws b in
      rw (key_same (i + 2) key ws b, value_same t (i + 2) rest c, members_same ms (i + 2) (after_value t rest) (value_bare t rest c))

  -- a value's
  value_same : (t : Tree) (i : ℕ) (ws : List Trail) → Bare ws → value_with t i ws ≡ value_at t i
  value_same (text value) i ws b = ap (λ s. 32 ∷ s) (scalar_same (i + 2) value ws b)
  value_same (sequence no_element) i ws b = rw (next_bare ws b)
  value_same (sequence (element t ts)) i ws b =
      let rest : List Trail = later_trails ws in
      let c : Bare rest = later_bare ws b in
      rw (next_bare ws b, element_same t (i + 2) rest c, elements_same ts (i + 2) (after_tree t rest) (tree_bare t rest c))
  value_same (mapping no_member) i ws b = rw (next_bare ws b)
  value_same (mapping (member key t ms)) i ws b =
      let own : List Trail = later_trails ws in
      let a : Bare own = later_bare ws b in
      let rest : List Trail = after_key key own in
      let c : Bare rest = key_bare key own a in
      rw (
        next_bare ws b,
        key_same (i + 2) key own a,
        value_same t (i + 2) rest c,
        members_same ms (i + 2) (after_value t rest) (value_bare t rest c),
      )

  -- those of further elements
  elements_same : (ts : Elements) (i : ℕ) (ws : List Trail) → Bare ws → elements_with ts i ws ≡ elements_after ts i
  elements_same no_element i ws b = refl
  elements_same (element t ts) i ws b = rw (element_same t i ws b, elements_same ts i (after_tree t ws) (tree_bare t ws b))

  -- and those of further members
  members_same : (ms : Members) (i : ℕ) (ws : List Trail) → Bare ws → members_with ms i ws ≡ members_after ms i
  members_same no_member i ws b = refl
  members_same (member key t ms) i ws b =
      let rest : List Trail = after_key key ws in
      let c : Bare rest = key_bare key ws b in
      rw (key_same i key ws b, value_same t i rest c, members_same ms i (after_value t rest) (value_bare t rest c))

-- without comments and empty lines it is the one style's text
pub bare_same : BareIsStyle
bare_same (text value) ws b = scalar_same 2 value ws b
bare_same (sequence no_element) ws b = rw (next_bare ws b)
bare_same (sequence (element t ts)) ws b =
    rw (element_same t 0 ws b, elements_same ts 0 (after_tree t ws) (tree_bare t ws b))
bare_same (mapping no_member) ws b = rw (next_bare ws b)
bare_same (mapping (member key t ms)) ws b =
    let rest : List Trail = after_key key ws in
    let c : Bare rest = key_bare key ws b in
    rw (key_same 0 key ws b, value_same t 0 rest c, members_same ms 0 (after_value t rest) (value_bare t rest c))
