-- Bytes of which a crash left zeros in some places, and what their closing lines and pieces are.
use Rattle.std.specs.Prelude.{◌≡◌, ◌≤◌, ◌⊎◌, ◌==◌, ◌&&◌, ◌+◌, not, Bool, true, false, ℕ, List, [], ◌∷◌, ◌++◌, length, take, replicate}
use Rattle.std.specs.Prelude.{Contains}
use Rattle.yaml_recognizers.specs.Prelude.{All, concat, chars, IsUtf8, Stream, Tree, IsTextTree, Presents, ClosesAt, ClosesOnce, Pieces}
use Rattle.yaml_recognizers.specs.Closings.{framed_text_bytes}

-- the tail is no longer than the text, and each of its bytes is the text's at its place, or 0
abbrev pub Zeroed : List ℕ → List ℕ → Type 0
Zeroed text [] = Unit {0}
Zeroed [] (b ∷ bs) = ⊥
Zeroed (t ∷ ts) (b ∷ bs) = ((b ≡ t) ⊎ (b ≡ 0)) × Zeroed ts bs

-- none of the numbers is 0
abbrev pub no_zero : List ℕ → Bool
no_zero [] = true
no_zero (b ∷ bs) = not (b == 0) && no_zero bs

-- ---- laws

-- zeros make no closing line: each that is left was there
abbrev pub NoClosingMade : Type 0
NoClosingMade = (text tail : List ℕ) (place : ℕ) → Zeroed text tail → ClosesAt tail place → ClosesAt text place

-- a text with a presentation has no zero
abbrev pub NoZeroPresented : Type 0
NoZeroPresented = (presentation : Stream) (text : List ℕ) → Presents presentation text → no_zero text ≡ true

-- nor have its bytes
abbrev pub NoZeroByte : Type 0
NoZeroByte = (presentation : Stream) (bytes : List ℕ) → IsUtf8 bytes → Presents presentation (chars bytes)
    → no_zero bytes ≡ true

-- nor has the text of a tree of texts, as it is written
abbrev pub NoZeroWritten : Type 0
NoZeroWritten = (t : Tree) → IsTextTree t → no_zero (framed_text_bytes t) ≡ true

-- A piece that is left of so many whole texts: it is as long as they are, with zeros in some places. If it has no zero
-- it is one of them, as it was.
pub record IsLeft (some : List (List ℕ)) (piece : List ℕ) : Type 0 where
  pub zeroed : Zeroed (concat some) piece
  pub long : length piece ≡ length (concat some)
  pub whole : no_zero piece ≡ true → some ≡ piece ∷ []

-- each of the pieces is left of some of the texts, in their order, and the rest of those after them
abbrev pub AreLeft : List (List ℕ) → List (List ℕ) → List ℕ → Type 0
AreLeft texts [] rest = Zeroed (concat texts) rest
AreLeft texts (p ∷ ps) rest =
    (some : List (List ℕ)) × (further : List (List ℕ)) × (texts ≡ some ++ further) × IsLeft some p
    × AreLeft further ps rest

-- the pieces of texts that are joined, with zeros in any places, and cut
abbrev pub PiecesLeft : Type 0
PiecesLeft = (texts pieces : List (List ℕ)) (tail rest : List ℕ) → All ClosesOnce texts
    → Zeroed (concat texts) tail → Pieces tail pieces rest → AreLeft texts pieces rest

-- a piece with a zero comes first
abbrev pub StartsWithHole : List (List ℕ) → Type 0
StartsWithHole [] = Unit {0}
StartsWithHole (p ∷ ps) = no_zero p ≡ false

-- The first of the texts are whole. The first piece after them has a zero, if there is one; and what has no zero behind
-- it is one of the later texts.
pub record HoleAfter (texts pieces : List (List ℕ)) (rest : List ℕ) : Type 0 where
  pub whole : List (List ℕ)
  pub further : List (List ℕ)
  pub others : List (List ℕ)
  pub all : texts ≡ whole ++ further
  pub found : pieces ≡ whole ++ others
  pub hole : StartsWithHole others
  pub left : AreLeft further others rest

-- the same of all texts
abbrev pub HolesAfter : Type 0
HolesAfter = (texts pieces : List (List ℕ)) (tail rest : List ℕ) → All ClosesOnce texts
    → Zeroed (concat texts) tail → Pieces tail pieces rest → HoleAfter texts pieces rest

-- Behind the first piece that has a zero, each piece without one is one of the texts that are not whole, and not the
-- first of these.
abbrev pub WholeBehind : Type 0
WholeBehind = (texts pieces : List (List ℕ)) (bad rest : List ℕ) → ClosesOnce bad → AreLeft texts (bad ∷ pieces) rest
    → All (λ piece. no_zero piece ≡ true
    → (first : List ℕ) × (later : List (List ℕ)) × (texts ≡ first ∷ later) × Contains later piece) pieces

-- a prefix, with zeros after it, of at most the length of the text is a case of this
abbrev pub CutsAreZeroed : Type 0
CutsAreZeroed = (text : List ℕ) (keep zeros : ℕ) → keep + zeros ≤ length text
    → Zeroed text (take keep text ++ replicate zeros 0)
