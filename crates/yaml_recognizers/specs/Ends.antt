-- Where a node ends: the conditions on what comes after it under which its recognizer finds it whole.
use Rattle.std.specs.Prelude.{◌≡◌, ℕ, suc, Bool, true, false, not, ◌&&◌, ◌||◌, ◌==◌, nat_le, nat_lt, List, [], ◌∷◌, ◌++◌, Option, codes}
use Rattle.std.proofs.Math.Logic.{◌⊎◌}
use Rattle.yaml_recognizers.specs.Prelude.{is_in, white, line_break, ns, list_all, first, is_empty, marker, LineEnd, comments_text, Sep}
use Rattle.yaml_recognizers.specs.Prelude.{gap_text, FlowContext, outer, inner, block_key, flow_key, safe, spaces_before, past_spaces}
use Rattle.yaml_recognizers.specs.{Prelude.{colon, dash}, Prefixes.sign, CanonicalComments.{hash, is_line_end, canonical_comments}}
use Rattle.yaml_recognizers.specs.CanonicalComments.{canonical_gap}

-- ---- gaps

-- neither whitespace nor a break nor the `#` of a comment: a gap ends before it
abbrev pub solid : ℕ → Bool
solid x = not (white x || line_break x || hash x)

-- ---- flow scalars

-- between brackets
abbrev pub between_brackets : FlowContext → Bool
between_brackets outer = false
between_brackets inner = true
between_brackets block_key = false
between_brackets flow_key = true

-- a comma or a closing bracket
abbrev pub closing : ℕ → Bool
closing x = is_in x (codes ",]}")

-- the `:` of a value between brackets: not before a safe character if the key is plain
abbrev pub is_colon : FlowContext → Bool → List ℕ → Bool
is_colon d after_plain [] = false
is_colon d after_plain (c ∷ cs) = (c == colon) && not (after_plain && first (safe d) cs)

-- between brackets: a gap, and then a closing character or the `:` of a value
pub record BetweenBrackets (c : FlowContext) (after_plain : Bool) (after : List ℕ) : Type 0 where
  pub within : between_brackets c ≡ true
  pub gap : Option Sep
  pub rest : List ℕ
  pub is : after ≡ gap_text gap ++ rest
  pub fits : (n : ℕ) × (canonical_gap n false gap rest ≡ true)
  pub stop : first closing rest || is_colon c after_plain rest ≡ true

-- in a block: whitespace, and then the `:` of a key
pub record BeforeColon (c : FlowContext) (after : List ℕ) : Type 0 where
  pub outside : between_brackets c ≡ false
  pub gap : List ℕ
  pub rest : List ℕ
  pub is : after ≡ gap ++ (colon ∷ rest)
  pub gap_white : list_all white gap ≡ true
  pub apart : first ns rest ≡ false

-- the text ends, or starts with a marker, or with a line of fewer than n spaces
abbrev pub less_deep : ℕ → List ℕ → Bool
less_deep n text = is_empty text || marker text || nat_lt (spaces_before text) n

-- in a block: comments, and then a line that is less deep
pub record BeforeComments (n : ℕ) (c : FlowContext) (after : List ℕ) : Type 0 where
  pub outside : c ≡ outer
  pub comments : List LineEnd
  pub rest : List ℕ
  pub is : after ≡ comments_text comments ++ rest
  pub fits : canonical_comments false comments rest ≡ true
  pub shallow : less_deep n rest ≡ true

-- the follow condition of flow scalars, at n in the context c; after_plain: the scalar is plain
abbrev pub Stops : ℕ → FlowContext → Bool → List ℕ → Type 0
Stops n c after_plain after = BetweenBrackets c after_plain after ⊎ (BeforeColon c after ⊎ BeforeComments n c after)

-- ---- block nodes

-- Nothing of a node at m starts here: the text ends, or a marker, a line of whitespace or a comment, or a line less
-- deep comes next. If the node may be a sequence as deep as its parent, which shallow says, that line has no `-` at the
-- parent's indentation.
abbrev pub block_node_stops : ℕ → Bool → List ℕ → Bool
block_node_stops m shallow text =
    is_empty text || marker text || is_line_end text
    || (nat_lt (spaces_before text) m
    && not (shallow && nat_le m (suc (spaces_before text)) && sign dash (past_spaces text)))
