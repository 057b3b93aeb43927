-- What the scanner finds at a place.
use Rattle.std.specs.Prelude.{◌≡◌, ℕ, ◌≤◌, Bool, true, List, Some}
use Rattle.yaml_block_scalars.specs.Prelude.{IsCharBoundary, chars, rest, Body, BlockEmptyLine, TextLine, block_value, empties_at, lines_at}
use Rattle.yaml_block_scalars.specs.{Prelude.{IsHeader, IsBody, BodyStands, on}, Meant.chomping_of, Pieces.is_one_piece}
use Rattle.yaml_block_scalars.specs.declared.parts.Header.{Header}
use Rattle.yaml_grammar.specs.BlockScalars as grammar

-- the header at a place, up to a later one
pub record IsHeaderAt (text : List ℕ) (at : ℕ) (header : Header) (end : ℕ) : Type 0 where
  pub above : at ≤ end
  pub boundary : IsCharBoundary text end
  pub says : IsHeader (rest text at) header.folded header.digit (chomping_of header.chomping) (rest text end)

-- the body after a header, literal or folded, of a scalar whose least indentation is m
pub record IsBodyAt (m : ℕ) (folded : Bool) (header : Header) (text : List ℕ) (at : ℕ) (value : List ℕ)
    (end : ℕ) : Type 0 where
  pub above : at ≤ end
  pub boundary : IsCharBoundary text end
  pub means : IsBody header.digit m folded (chomping_of header.chomping) (rest text at) (chars value) (rest text end)

-- the body there has its value in one piece
pub record IsPieceAt (m : ℕ) (header : Header) (text : List ℕ) (at end : ℕ) : Type 0 where
  pub body : Body
  pub stands : BodyStands header.digit m (rest text at) body (rest text end)
  pub piece : is_one_piece (chomping_of header.chomping) body.empties body.texts ≡ true

-- the lines at a place, with the empty lines before them
pub record AreLines (q : ℕ) (folded : Bool) (chomping : grammar.Chomping) (text : List ℕ) (at : ℕ) (value : List ℕ)
    (end : ℕ) : Type 0 where
  pub above : at ≤ end
  pub boundary : IsCharBoundary text end
  pub reads : on (lines_at q (empties_at q (rest text at)).1)
      (λ ls after. Some (block_value folded chomping (empties_at q (rest text at)).0 ls, after))
      ≡ Some (chars value, rest text end)

-- the value of the lines at the start of the text is there in one piece
abbrev pub ArePiece : ℕ → grammar.Chomping → List ℕ → Type 0
ArePiece q chomping text =
    (ls : List TextLine) × (after : List ℕ) × (lines_at q (empties_at q text).1 ≡ Some (ls, after))
    × (is_one_piece chomping (empties_at q text).0 ls ≡ true)
