-- What a scanner of block scalars says in terms of the grammar, over lists: some presentation is at the start of the
-- text, and each one there means the same and ends at the same place.
use Rattle.std.specs.Prelude.{◌≡◌, ℕ, Bool, true, List, ◌++◌, Option}
use Rattle.yaml_recognizers.specs.Prelude.{Chomping, Header, Body, BlockScalar, header_text, body_text, block_text, bare_block_text}
use Rattle.yaml_recognizers.specs.Prelude.{header_fits, body_fits, block_fits, block_events, block_value}

-- ---- the header

-- a header is at the start of the text, before the rest
pub record HeaderStands (text : List ℕ) (h : Header) (rest : List ℕ) : Type 0 where
  pub spells : text ≡ header_text h ++ rest
  pub fits : header_fits h rest ≡ true

-- what a header says
pub record HeaderMeans (h : Header) (folded : Bool) (digit : Option ℕ) (chomping : Chomping) : Type 0 where
  pub style : h.folded ≡ folded
  pub indentation : h.digit ≡ digit
  pub chomps : h.chomping ≡ chomping

-- a header that says this is at the start of the text, and each one there says the same and ends there
pub record IsHeader (text : List ℕ) (folded : Bool) (digit : Option ℕ) (chomping : Chomping)
    (rest : List ℕ) : Type 0 where
  pub header : Header
  pub stands : HeaderStands text header rest
  pub means : HeaderMeans header folded digit chomping
  pub only : (h : Header) (after : List ℕ) → HeaderStands text h after
      → HeaderMeans h folded digit chomping × (after ≡ rest)

-- no header is at the start of the text
abbrev pub NoHeader : List ℕ → Type 0
NoHeader text = (h : Header) (rest : List ℕ) → HeaderStands text h rest → ⊥

-- ---- the body: from the end of the header up to the first line that is neither a text line nor empty

-- a body is at the start of the text, before the rest
pub record BodyStands (digit : Option ℕ) (m : ℕ) (text : List ℕ) (b : Body) (rest : List ℕ) : Type 0 where
  pub spells : text ≡ body_text b ++ rest
  pub fits : body_fits digit m b rest ≡ true

-- one body of this value is at the start of the text, and no other
pub record IsBody (digit : Option ℕ) (m : ℕ) (folded : Bool) (chomping : Chomping)
    (text value rest : List ℕ) : Type 0 where
  pub body : Body
  pub stands : BodyStands digit m text body rest
  pub means : value ≡ block_value folded chomping body.empties body.texts
  pub only : (b : Body) (after : List ℕ) → BodyStands digit m text b after → (b ≡ body) × (after ≡ rest)

-- no body is at the start of the text
abbrev pub NoBody : Option ℕ → ℕ → List ℕ → Type 0
NoBody digit m text = (b : Body) (rest : List ℕ) → BodyStands digit m text b rest → ⊥

-- ---- the whole scalar: the comments after it may be divided in several ways

-- a block scalar is at the start of the text, before the rest
pub record BlockStands (m : ℕ) (text : List ℕ) (b : BlockScalar) (rest : List ℕ) : Type 0 where
  pub spells : text ≡ block_text b ++ rest
  pub fits : block_fits m b rest ≡ true

-- the two spell and mean the same, except for the comments after them
pub record SameBlock (b c : BlockScalar) : Type 0 where
  pub spells : bare_block_text b ≡ bare_block_text c
  pub means : (at : ℕ) → block_events at b ≡ block_events at c

-- the block scalar is at the start of the text, and each one there is the same except for comments
pub record IsBlock (m : ℕ) (text : List ℕ) (b : BlockScalar) (rest : List ℕ) : Type 0 where
  pub stands : BlockStands m text b rest
  pub only : (c : BlockScalar) (after : List ℕ) → BlockStands m text c after → SameBlock c b

-- no block scalar is at the start of the text
abbrev pub NoBlock : ℕ → List ℕ → Type 0
NoBlock m text = (b : BlockScalar) (rest : List ℕ) → BlockStands m text b rest → ⊥

-- ---- values
