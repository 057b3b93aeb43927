-- The canonical form of block scalars.
use Rattle.std.specs.Prelude.{ℕ, Bool, not, ◌&&◌, ◌||◌, nat_lt, List, [], ◌∷◌, is_some}
use Rattle.yaml_recognizers.specs.Prelude.{is_empty, first, LineEnd, Header, BlockScalar, chomping_text, spaces_before, past_spaces}
use Rattle.yaml_recognizers.specs.{Prelude.block_fits, CanonicalComments.{hash, is_line_end}}

-- [162] c-b-block-header, 8.1.1: the digit is last only after a chomping mark
abbrev pub canonical_header : Header → Bool
canonical_header h = not h.digit_last || (is_some h.digit && not (is_empty (chomping_text h.chomping)))

-- [169] l-trail-comments, 8.1.1.2: No further comment line that may belong to the scalar comes after its comments.
-- The first such line has its `#` after fewer than q spaces; after it each comment line is one.
abbrev pub whole_trail : ℕ → List LineEnd → List ℕ → Bool
whole_trail q [] after = not (nat_lt (spaces_before after) q && first hash (past_spaces after) && is_line_end after)
whole_trail q (e ∷ es) after = not (is_line_end after)

-- [170] c-l+literal and [174] c-l+folded, 8.1: a block scalar in its canonical form
abbrev pub canonical_block : ℕ → BlockScalar → List ℕ → Bool
canonical_block m b after = block_fits m b after && canonical_header b.header
    && whole_trail (b.body).indent b.trail after
