-- A reader's bytes, cut into pieces as they are read. `longest` and `most` are how many bytes a piece, or what comes after
-- the last one, and the whole pieces may have.
use Rattle.std.specs.Prelude.{◌≡◌, ℕ, ◌+◌, ◌<◌, ◌≤◌, Bool, true, false, List, [], ◌++◌, length, slice_range, Option, Result, Ok, Err}
use Rattle.yaml_docs.specs.{Prelude.{Consumes, IsAtEnd, ClosesAt, ClosesOnce}, Cutting.Unclosed, declared.pieces.Pieces.Pieces}
use Rattle.yaml_docs.specs.declared.pieces.PiecesFault.{PiecesFault}
use Rattle.yaml_docs.specs.declared.pieces.PiecesFault.TheVariants as fault

-- the bytes that were read and are in no piece yet
abbrev pub ahead : Pieces → List ℕ
ahead pieces = slice_range pieces.chunk.items pieces.start pieces.end

-- how many bytes were read
abbrev pub bytes_read : Pieces → ℕ
bytes_read pieces = pieces.total

-- the most bytes of a piece, and of the whole input
abbrev pub piece_limit : Pieces → ℕ
piece_limit pieces = pieces.cutter.max

abbrev pub input_limit : Pieces → ℕ
input_limit pieces = pieces.limit

-- the piece, or what comes after the last one
abbrev pub piece_or_rest : Pieces → List ℕ
piece_or_rest pieces = pieces.cutter.bytes

-- What holds between two calls: the limits are these, and a piece may be as long as the longest chunk; the chunk has room
-- for a byte, the bytes ahead lie in it, and no limit is passed.
pub record IsSound (longest most : ℕ) (pieces : Pieces) : Type 0 where
  pub max : piece_limit pieces ≡ longest
  pub whole : input_limit pieces ≡ most
  pub chunk : 65536 ≤ longest
  pub some : 0 < length pieces.chunk.items
  pub room : length pieces.chunk.items ≤ 65536
  pub ordered : pieces.start ≤ pieces.end
  pub within : pieces.end ≤ length pieces.chunk.items
  pub total : pieces.total ≤ most

-- no closing line ends within as many bytes as a piece may have, and there are more bytes
pub record IsOverlong (longest : ℕ) (bytes : List ℕ) : Type 0 where
  pub unclosed : (place : ℕ) → place ≤ longest → ClosesAt bytes place → ⊥
  pub long : longest < length bytes

-- ---- taking in what was read

-- the bytes ahead close the piece
pub record FeedsPiece (longest most : ℕ) (old new : Pieces) : Type 0 where
  pub sound : IsSound longest most new
  pub joined : piece_or_rest old ++ ahead old ≡ piece_or_rest new ++ ahead new
  pub piece : ClosesOnce (piece_or_rest new)
  pub short : length (piece_or_rest new) ≤ longest
  pub total : new.total ≡ old.total

-- all bytes ahead are taken in, and close nothing
pub record FeedsAll (longest most : ℕ) (old new : Pieces) : Type 0 where
  pub sound : IsSound longest most new
  pub joined : piece_or_rest old ++ ahead old ≡ piece_or_rest new
  pub used : ahead new ≡ []
  pub unclosed : Unclosed (piece_or_rest new)
  pub short : length (piece_or_rest new) ≤ longest
  pub total : new.total ≡ old.total

abbrev pub Feeds : ℕ → ℕ → Pieces → Pieces → Result Bool PiecesFault → Type 0
Feeds longest most old new (Ok true) = FeedsPiece longest most old new
Feeds longest most old new (Ok false) = FeedsAll longest most old new
Feeds longest most old new (Err fault.TooLong) = IsOverlong longest (piece_or_rest old ++ ahead old)
Feeds longest most old new (Err fault.OutOfMemory) = Unit {0}
Feeds longest most old new (Err fault) = ⊥

-- ---- reading once

-- where no bytes are ahead, none are afterwards, and only the chunk may have changed
pub record Widens (longest most : ℕ) (old new : Pieces) : Type 0 where
  pub sound : IsSound longest most new
  pub used : ahead new ≡ []
  pub held : new.cutter ≡ old.cutter
  pub limit : new.limit ≡ old.limit
  pub total : new.total ≡ old.total

-- Some bytes were read, and are ahead. `given` and `left` are what the reader has before and after, where it is known.
pub record FillsSome (longest most : ℕ) (given left : Option (List ℕ)) (old new : Pieces) : Type 0 where
  pub sound : IsSound longest most new
  pub taken : Consumes given left (ahead new)
  pub some : 0 < length (ahead new)
  pub held : piece_or_rest new ≡ piece_or_rest old
  pub total : new.total ≡ old.total + length (ahead new)

-- the reader is at its end
pub record FillsNone (longest most : ℕ) (given left : Option (List ℕ)) (old new : Pieces) : Type 0 where
  pub sound : IsSound longest most new
  pub taken : Consumes given left []
  pub at_end : IsAtEnd left
  pub held : piece_or_rest new ≡ piece_or_rest old
  pub used : ahead new ≡ []
  pub total : new.total ≡ old.total

-- as many bytes as an input may have were read before, and now at least one more
pub record FillsBeyond (most : ℕ) (given left : Option (List ℕ)) (old : Pieces) : Type 0 where
  pub more : List ℕ
  pub taken : Consumes given left more
  pub some : 0 < length more
  pub full : old.total ≡ most

abbrev pub Fills : ℕ → ℕ → Option (List ℕ) → Option (List ℕ) → Pieces → Pieces → Result Bool PiecesFault → Type 0
Fills longest most given left old new (Ok true) = FillsSome longest most given left old new
Fills longest most given left old new (Ok false) = FillsNone longest most given left old new
Fills longest most given left old new (Err fault.Read) = Consumes given left []
Fills longest most given left old new (Err fault.InputLong) = FillsBeyond most given left old
Fills longest most given left old new (Err fault) = ⊥

-- ---- the next piece

-- there is a next piece, of bytes that were ahead and of bytes that were read now
pub record AdvancesToPiece (longest most : ℕ) (given left : Option (List ℕ)) (old new : Pieces) : Type 0 where
  pub more : List ℕ
  pub taken : Consumes given left more
  pub sound : IsSound longest most new
  pub joined : ahead old ++ more ≡ piece_or_rest new ++ ahead new
  pub piece : ClosesOnce (piece_or_rest new)
  pub short : length (piece_or_rest new) ≤ longest
  pub total : new.total ≡ old.total + length more

-- the input was read to its end, and what comes after the last piece closes nothing
pub record AdvancesToEnd (longest most : ℕ) (given left : Option (List ℕ)) (old new : Pieces) : Type 0 where
  pub more : List ℕ
  pub taken : Consumes given left more
  pub at_end : IsAtEnd left
  pub joined : ahead old ++ more ≡ piece_or_rest new
  pub unclosed : Unclosed (piece_or_rest new)
  pub short : length (piece_or_rest new) ≤ longest
  pub total : old.total + length more ≤ most

-- a read failed, and the bytes before it close no further piece
pub record FailsToRead (longest : ℕ) (given left : Option (List ℕ)) (old : Pieces) : Type 0 where
  pub more : List ℕ
  pub taken : Consumes given left more
  pub unclosed : Unclosed (ahead old ++ more)
  pub short : length (ahead old ++ more) ≤ longest

-- no closing line comes within the limit of a piece
pub record FindsTooLong (longest : ℕ) (given left : Option (List ℕ)) (old : Pieces) : Type 0 where
  pub more : List ℕ
  pub taken : Consumes given left more
  pub overlong : IsOverlong longest (ahead old ++ more)

-- as many bytes as an input may have were read, which close no further piece, and then at least one more
pub record FindsInputLong (longest most : ℕ) (given left : Option (List ℕ)) (old : Pieces) : Type 0 where
  pub more : List ℕ
  pub beyond : List ℕ
  pub taken : Consumes given left (more ++ beyond)
  pub some : 0 < length beyond
  pub unclosed : Unclosed (ahead old ++ more)
  pub short : length (ahead old ++ more) ≤ longest
  pub full : old.total + length more ≡ most

-- memory ran out, after some bytes were read or none
pub record RunsOutOfMemory (given left : Option (List ℕ)) : Type 0 where
  pub more : List ℕ
  pub taken : Consumes given left more

abbrev pub Advances : ℕ → ℕ → Option (List ℕ) → Option (List ℕ) → Pieces → Pieces → Result Bool PiecesFault → Type 0
Advances longest most given left old new (Ok true) = AdvancesToPiece longest most given left old new
Advances longest most given left old new (Ok false) = AdvancesToEnd longest most given left old new
Advances longest most given left old new (Err fault.Read) = FailsToRead longest given left old
Advances longest most given left old new (Err fault.TooLong) = FindsTooLong longest given left old
Advances longest most given left old new (Err fault.InputLong) = FindsInputLong longest most given left old
Advances longest most given left old new (Err fault.OutOfMemory) = RunsOutOfMemory given left

-- ---- the next piece, without a read

-- the bytes that were read close a further piece
abbrev pub HasPieceAhead : Pieces → Type 0
HasPieceAhead pieces = (place : ℕ) × ClosesAt (ahead pieces) place

-- the next piece is of bytes that were ahead
pub record AdvancesWithin (longest most : ℕ) (old new : Pieces) : Type 0 where
  pub sound : IsSound longest most new
  pub joined : ahead old ≡ piece_or_rest new ++ ahead new
  pub piece : ClosesOnce (piece_or_rest new)
  pub short : length (piece_or_rest new) ≤ longest
  pub total : new.total ≡ old.total

abbrev pub AdvancesAhead : ℕ → ℕ → Pieces → Pieces → Result (Unit {0}) PiecesFault → Type 0
AdvancesAhead longest most old new (Ok done) = AdvancesWithin longest most old new
AdvancesAhead longest most old new (Err fault.OutOfMemory) = Unit {0}
AdvancesAhead longest most old new (Err fault) = ⊥
