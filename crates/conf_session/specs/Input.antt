-- The input of a session, cut into pieces as it is read, within the limits of a session.
use Rattle.std.specs.Prelude.{◌≡◌, ℕ, Bool, true, false, List, Option, Result, Ok, Err}
use Rattle.conf_session.specs.{Said.piece_limit, declared.input.Input.Input, declared.fault.SessionFault.SessionFault}
use Rattle.yaml_docs.specs.PieceReading as reading
use Rattle.conf_session.specs.declared.fault.SessionFault.TheVariants as fault

-- the most bytes of an input
abbrev pub session_limit : ℕ
session_limit = 1073741824

-- the bytes that were read and are in no piece yet
abbrev pub ahead : Input → List ℕ
ahead input = reading.ahead input.pieces

-- how many bytes were read
abbrev pub bytes_read : Input → ℕ
bytes_read input = reading.bytes_read input.pieces

-- the piece, or what comes after the last one
abbrev pub piece_or_rest : Input → List ℕ
piece_or_rest input = reading.piece_or_rest input.pieces

-- what holds between two calls
abbrev pub IsSound : Input → Type 0
IsSound input = reading.IsSound piece_limit session_limit input.pieces

-- no closing line ends within the first 16,777,216 bytes, and there are more bytes
abbrev pub IsOverlong : List ℕ → Type 0
IsOverlong bytes = reading.IsOverlong piece_limit bytes

-- ---- the next piece

-- there is a next piece, of bytes that were ahead and of bytes that were read now
abbrev pub AdvancesToPiece : Option (List ℕ) → Option (List ℕ) → Input → Input → Type 0
AdvancesToPiece given left old new = reading.AdvancesToPiece piece_limit session_limit given left old.pieces new.pieces

-- the input was read to its end, and what comes after the last piece closes nothing
abbrev pub AdvancesToEnd : Option (List ℕ) → Option (List ℕ) → Input → Input → Type 0
AdvancesToEnd given left old new = reading.AdvancesToEnd piece_limit session_limit given left old.pieces new.pieces

-- a read failed, and the bytes before it close no further piece
abbrev pub FailsToRead : Option (List ℕ) → Option (List ℕ) → Input → Type 0
FailsToRead given left old = reading.FailsToRead piece_limit given left old.pieces

-- no closing line comes within the limit of a piece
abbrev pub FindsTooLong : Option (List ℕ) → Option (List ℕ) → Input → Type 0
FindsTooLong given left old = reading.FindsTooLong piece_limit given left old.pieces

-- as many bytes as an input may have were read, which close no further piece, and then at least one more
abbrev pub FindsSessionLong : Option (List ℕ) → Option (List ℕ) → Input → Type 0
FindsSessionLong given left old = reading.FindsInputLong piece_limit session_limit given left old.pieces

-- memory ran out, after some bytes were read or none
abbrev pub RunsOutOfMemory : Option (List ℕ) → Option (List ℕ) → Type 0
RunsOutOfMemory given left = reading.RunsOutOfMemory given left

abbrev pub Advances : Option (List ℕ) → Option (List ℕ) → Input → Input → Result Bool SessionFault → Type 0
Advances given left old new (Ok true) = AdvancesToPiece given left old new
Advances given left old new (Ok false) = AdvancesToEnd given left old new
Advances given left old new (Err fault.Read) = FailsToRead given left old
Advances given left old new (Err fault.TooLong) = FindsTooLong given left old
Advances given left old new (Err fault.SessionLong) = FindsSessionLong given left old
Advances given left old new (Err fault.OutOfMemory) = RunsOutOfMemory given left
Advances given left old new (Err fault) = ⊥

-- ---- the next piece, without a read

-- the bytes that were read close a further piece
abbrev pub HasPieceAhead : Input → Type 0
HasPieceAhead input = reading.HasPieceAhead input.pieces

-- the next piece is of bytes that were ahead
abbrev pub AdvancesWithin : Input → Input → Type 0
AdvancesWithin old new = reading.AdvancesWithin piece_limit session_limit old.pieces new.pieces

abbrev pub AdvancesAhead : Input → Input → Result (Unit {0}) SessionFault → Type 0
AdvancesAhead old new (Ok done) = AdvancesWithin old new
AdvancesAhead old new (Err f) = f ≡ fault.OutOfMemory
