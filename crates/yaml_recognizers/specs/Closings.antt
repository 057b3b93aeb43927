-- The texts of records and bases, and where they are closed, whole, joined and torn.
use Rattle.std.specs.Prelude.{◌≡◌, ◌+◌, ◌<◌, ◌≤◌, ◌↔◌, ℕ, List, [], ◌∷◌, ◌++◌, length, replicate, map, codes, encode_utf8_all, IsTrue}
use Rattle.{yaml_recognizers.specs.Prelude.{concat, Tree, style_text}, yaml_grammar.specs.Closings.{ends_line, ClosesAt, ClosesOnce}}
use Rattle.yaml_grammar.specs.Closings.{Pieces}

-- a line of `---`, the tree in the one style, and a closing line
abbrev pub framed_text : Tree → List ℕ
framed_text t = codes "---\n" ++ (style_text t ++ codes "...\n")

-- as bytes
abbrev pub framed_text_bytes : Tree → List ℕ
framed_text_bytes t = encode_utf8_all (framed_text t)

-- the texts of trees, one after another
abbrev pub all_framed_bytes : List Tree → List ℕ
all_framed_bytes ts = concat (map framed_text_bytes ts)

-- one of the consecutive texts ends at the place, which is within the first `kept` bytes
pub record EndsWhole (ts : List Tree) (kept place : ℕ) : Type 0 where
  pub before : List Tree
  pub one : Tree
  pub after : List Tree
  pub all : ts ≡ before ++ (one ∷ after)
  pub ends : place ≡ length (all_framed_bytes (before ++ (one ∷ [])))
  pub within : place ≤ kept

-- each such text closes once, at its end
abbrev pub ClosedOnce : Type 0
ClosedOnce = (t : Tree) → ClosesOnce (framed_text_bytes t)

-- If a prefix of consecutive texts is kept, and zeros come after it, it closes at the ends of the texts that are whole,
-- and nowhere else.
abbrev pub TornClosings : Type 0
TornClosings = (ts : List Tree) (prefix lost : List ℕ) (padding place : ℕ) → all_framed_bytes ts ≡ prefix ++ lost
    → (ClosesAt (prefix ++ replicate padding 0) place ↔ EndsWhole ts (length prefix) place)

-- the pieces of a prefix with zeros after it: the texts that are whole; the rest is what is kept of the next one, and
-- the zeros
pub record TornPieces (ts : List Tree) (prefix : List ℕ) (padding : ℕ) : Type 0 where
  pub whole : List Tree
  pub further : List Tree
  pub kept : List ℕ
  pub all : ts ≡ whole ++ further
  pub cut : prefix ≡ all_framed_bytes whole ++ kept
  pub short : (next : Tree) (more : List Tree) → further ≡ next ∷ more → length kept < length (framed_text_bytes next)
  pub pieces : Pieces (prefix ++ replicate padding 0) (map framed_text_bytes whole) (kept ++ replicate padding 0)

-- the same for all lists of trees, and wherever they are cut
abbrev pub TornInPieces : Type 0
TornInPieces = (ts : List Tree) (prefix lost : List ℕ) (padding : ℕ) → all_framed_bytes ts ≡ prefix ++ lost
    → TornPieces ts prefix padding

-- bytes have only one list of pieces
abbrev pub OnePieces : Type 0
OnePieces = (bytes : List ℕ) (ps qs : List (List ℕ)) (rest other : List ℕ) → Pieces bytes ps rest
    → Pieces bytes qs other → (ps ≡ qs) × (rest ≡ other)

-- between the start of a line and the next closing is a piece
abbrev pub PieceBetween : Type 0
PieceBetween = (prefix piece after : List ℕ) → IsTrue (ends_line prefix) → 0 < length piece
    → ClosesAt (prefix ++ (piece ++ after)) (length prefix + length piece)
    → ((place : ℕ) → length prefix < place → ClosesAt (prefix ++ (piece ++ after)) place
    → length prefix + length piece ≤ place)
    → ClosesOnce piece

-- what comes after the start of a line isn't closed where no closing comes after that place
abbrev pub RestUnclosed : Type 0
RestUnclosed = (prefix rest : List ℕ) → IsTrue (ends_line prefix)
    → ((place : ℕ) → length prefix < place → ClosesAt (prefix ++ rest) place → ⊥)
    → (place : ℕ) → ClosesAt rest place → ⊥

-- all bytes have a list of pieces
abbrev pub SomePieces : Type 0
SomePieces = (bytes : List ℕ) → (pieces : List (List ℕ)) × (rest : List ℕ) × Pieces bytes pieces rest
