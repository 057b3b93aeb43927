-- What lines of comments and trails have to meet, so that they are no part of the tree.
use Rattle.std.specs.{Prelude.{◌≡◌, ℕ, ◌+◌, Bool, true, false, not, ◌&&◌, ◌||◌, nat_le, List, [], ◌∷◌, Option, Some, None}, List.list_all}
use Rattle.{yaml_chars.specs.Classes.nb, yaml_grammar.specs.Trees.{Tree, text, sequence, mapping, Elements, no_element, element, Members}}
use Rattle.yaml_grammar.specs.{Trees.{no_member, member}, Style.{plain_in_style, literal_in_style, feeds_at_end, long_key}}
use Rattle.yaml_commented.specs.{Trails.{Extra, empty_line, comment_line, Trail}, Commented.{next_trail, later_trails, after_key}}
use Rattle.yaml_commented.specs.Commented.{after_tree, after_value}

-- a comment is on one line
abbrev pub behind_fits : Option (List ℕ) → Bool
behind_fits None = true
behind_fits (Some comment) = list_all nb comment

-- the same of a line's comment
abbrev pub extra_fits : Extra → Bool
extra_fits empty_line = true
extra_fits (comment_line n comment) = list_all nb comment

-- each comment is on one line
abbrev pub trail_fits : Trail → Bool
trail_fits w = behind_fits w.behind && list_all extra_fits w.lines

-- the first of the lines is no empty one
abbrev pub starts_filled : List Extra → Bool
starts_filled (empty_line ∷ xs) = false
starts_filled _ = true

-- the first comment is after at most i spaces
abbrev pub starts_low : ℕ → List Extra → Bool
starts_low i [] = true
starts_low i (empty_line ∷ xs) = starts_low i xs
starts_low i (comment_line n comment ∷ xs) = nat_le n i

-- Behind a literal in a collection at the indentation i, the first comment is less indented than the body. If the line
-- feeds at the end are kept, no empty line is directly behind it (8.1.1.2).
abbrev pub literal_trail_fits : ℕ → List ℕ → Trail → Bool
literal_trail_fits i value w = (nat_le (feeds_at_end value) 1 || starts_filled w.lines) && starts_low i w.lines

-- a trail behind a scalar
abbrev pub scalar_trail_fits : ℕ → List ℕ → Trail → Bool
scalar_trail_fits i value w =
    trail_fits w && (plain_in_style value || not (literal_in_style value) || literal_trail_fits i value w)

-- the trail of a long key's own line
abbrev pub key_trail_fits : List ℕ → List Trail → Bool
key_trail_fits key ws = not (long_key key) || trail_fits (next_trail ws)

abbrev mutual
  -- those of an element in a sequence at the indentation i
  pub ElementFits : Tree → ℕ → List Trail → Type 0
  ElementFits (text value) i ws = scalar_trail_fits i value (next_trail ws) ≡ true
  ElementFits (sequence no_element) i ws = trail_fits (next_trail ws) ≡ true
  ElementFits (sequence (element t ts)) i ws = ElementFits t (i + 2) ws × ElementsFit ts (i + 2) (after_tree t ws)
  ElementFits (mapping no_member) i ws = trail_fits (next_trail ws) ≡ true
  ElementFits (mapping (member key t ms)) i ws =
      (key_trail_fits key ws ≡ true) × ValueFits t (i + 2) (after_key key ws)
      × MembersFit ms (i + 2) (after_value t (after_key key ws))

  -- those of a value in a mapping at the indentation i
  pub ValueFits : Tree → ℕ → List Trail → Type 0
  ValueFits (text value) i ws = scalar_trail_fits i value (next_trail ws) ≡ true
  ValueFits (sequence no_element) i ws = trail_fits (next_trail ws) ≡ true
  ValueFits (sequence (element t ts)) i ws =
      (trail_fits (next_trail ws) ≡ true) × ElementFits t (i + 2) (later_trails ws)
      × ElementsFit ts (i + 2) (after_tree t (later_trails ws))
  ValueFits (mapping no_member) i ws = trail_fits (next_trail ws) ≡ true
  ValueFits (mapping (member key t ms)) i ws =
      (trail_fits (next_trail ws) ≡ true) × (key_trail_fits key (later_trails ws) ≡ true)
      × ValueFits t (i + 2) (after_key key (later_trails ws))
      × MembersFit ms (i + 2) (after_value t (after_key key (later_trails ws)))

  -- those of elements at the indentation i
  pub ElementsFit : Elements → ℕ → List Trail → Type 0
  ElementsFit no_element i ws = Unit {0}
  ElementsFit (element t ts) i ws = ElementFits t i ws × ElementsFit ts i (after_tree t ws)

  -- those of members at the indentation i
  pub MembersFit : Members → ℕ → List Trail → Type 0
  MembersFit no_member i ws = Unit {0}
  MembersFit (member key t ms) i ws =
      (key_trail_fits key ws ≡ true) × ValueFits t i (after_key key ws)
      × MembersFit ms i (after_value t (after_key key ws))

-- those of a tree at the top
abbrev pub TreeFits : Tree → List Trail → Type 0
TreeFits (text value) ws = scalar_trail_fits 0 value (next_trail ws) ≡ true
TreeFits (sequence no_element) ws = trail_fits (next_trail ws) ≡ true
TreeFits (sequence (element t ts)) ws = ElementFits t 0 ws × ElementsFit ts 0 (after_tree t ws)
TreeFits (mapping no_member) ws = trail_fits (next_trail ws) ≡ true
TreeFits (mapping (member key t ms)) ws =
    (key_trail_fits key ws ≡ true) × ValueFits t 0 (after_key key ws)
    × MembersFit ms 0 (after_value t (after_key key ws))

-- the lines before a tree and the trails behind its lines fit, and no trail is left over
pub record Fits (lead : List Extra) (t : Tree) (ws : List Trail) : Type 0 where
  pub before : list_all extra_fits lead ≡ true
  pub trails : TreeFits t ws
  pub used : after_tree t ws ≡ []
