-- A walk over the pieces of a store's file, between two calls.
use Rattle.std.specs.Prelude.{◌≡◌, ◌+◌, ◌≤◌, ◌<◌, ◌⊎◌, ℕ, Bool, true, false, List, [], ◌∷◌, ◌++◌, length, Option, Some, None, Result, Ok}
use Rattle.std.specs.Prelude.{Err, IfSome}
use Rattle.conf_history.specs.Prelude.{All, concat, Consumes, IsAtEnd, ClosesOnce, Unclosed, IsSound, ahead, bytes_read, piece_or_rest}
use Rattle.conf_history.specs.Prelude.{store_limit, Command, Contents, step, Enough, IsBase, IsNoBase, IsRecord, MayBeDropped, PiecesMean}
use Rattle.conf_history.specs.{Prelude.{IsWhy, StartsWithHole}, BadPieces.line_feeds, declared.place.{BadPiece.BadPiece, Place.Place}}
use Rattle.conf_history.specs.declared.fault.HistoryFault.{HistoryFault, TheVariants.{Damaged, NoSuchCommand, OutOfMemory}}
use Rattle.conf_history.specs.{declared.{walk.Walk.Walk, following.BadKind.{BadKind, TheVariants.{Torn, Unexpected}}}, Histories.IsNoStore}
use Rattle.{conf_history.specs.Histories.{RefusesReading, RefusesSurvey, StartsAfter}, yaml_docs.specs.declared.pieces.Pieces.Pieces}
use Rattle.yaml_grammar.specs.Closings.{Pieces as Cut}

-- the place is after these pieces
pub record IsAfter (pieces : List (List ℕ)) (place : Place) : Type 0 where
  pub number : length pieces ≡ place.number
  pub byte : length (concat pieces) ≡ place.byte
  pub feeds : line_feeds (concat pieces) ≡ place.feeds
  pub few : place.number ≤ place.byte

-- The pieces are a base of `start` and the records of these commands, which lead to `s`. Each is closed once.
pub record ArePerformed (pieces : List (List ℕ)) (start : Contents) (commands : List Command) (s : Contents)
    : Type 0 where
  pub closed : All ClosesOnce pieces
  pub mean : PiecesMean pieces s
  pub begins : mean.start ≡ start
  pub performed : mean.commands ≡ commands

-- A walk, with the state after the pieces that it has gone over.
pub record Walked : Type 0 where
  pub pieces : Pieces
  pub state : Contents
  pub place : Place

-- the walk with this state
abbrev pub with_state : Walk → Contents → Walked
with_state walk s = record { pieces = walk.pieces; state = s; place = walk.place }

-- the reader's pieces are in order, with the limits of a store's file
abbrev pub HasLimits : Pieces → Type 0
HasLimits pieces = IsSound store_limit store_limit pieces

-- The bytes that were read are pieces, which were performed, and these further ones.
pub record HasRead (given left : Option (List ℕ)) (walk : Walked) (further : List ℕ) (pieces : List (List ℕ))
    (start : Contents) (commands : List Command) : Type 0 where
  pub taken : Consumes given left (concat pieces ++ further)
  pub total : bytes_read walk.pieces ≡ length (concat pieces ++ further)
  pub limits : HasLimits walk.pieces
  pub performed : ArePerformed pieces start commands walk.state
  pub place : IsAfter pieces walk.place

-- all pieces that the walk has gone over are performed
abbrev pub IsBetween : Option (List ℕ) → Option (List ℕ) → Walked → List (List ℕ) → Contents → List Command → Type 0
IsBetween given left walk pieces start commands = HasRead given left walk (ahead walk.pieces) pieces start commands

-- there is a piece that is not performed yet
pub record IsAtPiece (given left : Option (List ℕ)) (walk : Walked) (pieces : List (List ℕ)) (start : Contents)
    (commands : List Command) : Type 0 where
  pub read : HasRead given left walk (piece_or_rest walk.pieces ++ ahead walk.pieces) pieces start commands
  pub piece : ClosesOnce (piece_or_rest walk.pieces)

-- the file was read to its end, and what comes after the last piece is not closed
pub record IsAtEndOf (given left : Option (List ℕ)) (walk : Walked) (pieces : List (List ℕ)) (start : Contents)
    (commands : List Command) : Type 0 where
  pub taken : Consumes given left (concat pieces ++ piece_or_rest walk.pieces)
  pub at_end : IsAtEnd left
  pub short : length (concat pieces ++ piece_or_rest walk.pieces) ≤ store_limit
  pub unclosed : Unclosed (piece_or_rest walk.pieces)
  pub performed : ArePerformed pieces start commands walk.state
  pub place : IsAfter pieces walk.place

-- the place of this bad piece is that of the walk, and the reason is right
pub record IsBadHere (walk : Walked) (bad : BadPiece) : Type 0 where
  pub number : walk.place.number ≡ bad.number
  pub byte : walk.place.byte ≡ bad.byte
  pub line : walk.place.feeds + 1 ≡ bad.line
  pub why : IsWhy (piece_or_rest walk.pieces) walk.state bad.why

-- ---- what the calls of a walk make of it

-- The first piece was read. A base begins the walk. What is no base begins no store.
pub record BeginsWith (given left : Option (List ℕ)) (walk : Walk) : Type 0 where
  pub base : (s : Contents) → IsBase (piece_or_rest walk.pieces) s
      → IsBetween given left (with_state walk s) (piece_or_rest walk.pieces ∷ []) s []
  pub none : IsNoBase (piece_or_rest walk.pieces) → IfSome given IsNoStore

-- why the next piece can't be had
abbrev pub LacksPiece : Option (List ℕ) → HistoryFault → Type 0
LacksPiece given (Damaged bad) = ⊥
LacksPiece given NoSuchCommand = ⊥
LacksPiece given fault = IfSome given (λ bytes. RefusesSurvey bytes fault)

-- after the next piece was looked for
abbrev pub AfterAdvance : Option (List ℕ) → Option (List ℕ) → Walked → List (List ℕ) → Contents → List Command
    → Result Bool HistoryFault → Type 0
AfterAdvance given left walk pieces start commands (Ok true) = IsAtPiece given left walk pieces start commands
AfterAdvance given left walk pieces start commands (Ok false) = IsAtEndOf given left walk pieces start commands
AfterAdvance given left walk pieces start commands (Err fault) = LacksPiece given fault

-- the same of a walk up to a number, which is not passed
pub record IsOn (at : Option ℕ) (given left : Option (List ℕ)) (walk : Walked) (pieces : List (List ℕ))
    (start : Contents) (commands : List Command) : Type 0 where
  pub between : IsBetween given left walk pieces start commands
  pub up_to : IfSome at (λ number. walk.state.count ≤ number)

-- the same, whatever was read
pub record IsWalking (at : Option ℕ) (left : Option (List ℕ)) (walk : Walked) : Type 0 where
  pub given : Option (List ℕ)
  pub pieces : List (List ℕ)
  pub start : Contents
  pub commands : List Command
  pub on : IsOn at given left walk pieces start commands

-- The walk has come to its end: the command with the number is performed, or, without a number, the file was read.
abbrev pub HasEnded : Option ℕ → Option (List ℕ) → Option (List ℕ) → Walked → List (List ℕ) → Contents → List Command
    → Type 0
HasEnded at given left walk pieces start commands =
    ((at ≡ Some walk.state.count) × IsBetween given left walk pieces start commands)
    ⊎ ((at ≡ None) × IsAtEndOf given left walk pieces start commands)

-- The file was read to its end. Behind the pieces come others, as a crash may have left them: the first has a zero, and
-- they may be dropped. Then come bytes that are not closed.
pub record IsTornBehind (several : Bool) (given left : Option (List ℕ)) (s : Contents) (pieces : List (List ℕ))
    (start : Contents) (commands : List Command) : Type 0 where
  pub bytes : List ℕ
  pub others : List (List ℕ)
  pub rest : List ℕ
  pub taken : Consumes given left bytes
  pub at_end : IsAtEnd left
  pub short : length bytes ≤ store_limit
  pub cut : Cut bytes (pieces ++ others) rest
  pub hole : StartsWithHole others
  pub lost : MayBeDropped several others
  pub performed : ArePerformed pieces start commands s

-- The walk has come to its end, or, without a number, to pieces that a crash may have left.
abbrev pub Ends : Bool → Option ℕ → Option (List ℕ) → Option (List ℕ) → Walked → List (List ℕ) → Contents
    → List Command → Type 0
Ends several at given left walk pieces start commands =
    HasEnded at given left walk pieces start commands
    ⊎ ((at ≡ None) × IsTornBehind several given left walk.state pieces start commands)

-- the bad piece, if there is one, comes after these
abbrev pub ComesAfter : List (List ℕ) → HistoryFault → Type 0
ComesAfter pieces (Damaged bad) = length pieces ≡ bad.number
ComesAfter pieces fault = Unit {0}

-- why the records after these pieces, up to a number or to the end, are not all performed
abbrev pub Fails : Bool → Option ℕ → Option (List ℕ) → List (List ℕ) → HistoryFault → Type 0
Fails several at given pieces fault = IfSome given (λ bytes. RefusesReading several bytes at fault × ComesAfter pieces fault)

-- what a walk up to a number, or to the end, finds at a bad piece of this kind
abbrev pub end_at_bad : BadPiece → BadKind → Option ℕ → Result Bool HistoryFault
end_at_bad bad Unexpected at = Err (Damaged bad)
end_at_bad bad Torn (Some number) = Err NoSuchCommand
end_at_bad bad Torn None = Ok false

-- why a walk up to a number does not begin
abbrev pub RefusesStart : Option ℕ → List ℕ → HistoryFault → Type 0
RefusesStart at bytes fault =
    RefusesSurvey bytes fault
    ⊎ ((fault ≡ NoSuchCommand) × (number : ℕ) × (at ≡ Some number) × StartsAfter bytes number)

-- Why a walk does not come to its end. The piece that it is at is the first that is
-- no next record, or the file was read and the number not reached, or the next piece can't be had.
abbrev pub Stops : Option ℕ → Option (List ℕ) → Option (List ℕ) → Walked → List (List ℕ) → Contents → List Command
    → HistoryFault → Type 0
Stops at given left walk pieces start commands (Damaged bad) =
    IsAtPiece given left walk pieces start commands × IsBadHere walk bad × IfSome at (λ number. walk.state.count < number)
Stops at given left walk pieces start commands NoSuchCommand =
    (number : ℕ) × (at ≡ Some number) × (walk.state.count < number) × IsAtEndOf given left walk pieces start commands
Stops at given left walk pieces start commands fault = LacksPiece given fault

-- after the next piece up to a number was looked for
abbrev pub AfterGoing : Option ℕ → Option (List ℕ) → Option (List ℕ) → Walked → List (List ℕ) → Contents → List Command
    → Result Bool HistoryFault → Type 0
AfterGoing at given left walk pieces start commands (Ok true) =
    IfSome at (λ number. walk.state.count < number) × IsAtPiece given left walk pieces start commands
AfterGoing at given left walk pieces start commands (Ok false) = HasEnded at given left walk pieces start commands
AfterGoing at given left walk pieces start commands (Err fault) = Stops at given left walk pieces start commands fault

-- one more piece is performed, and this is told of its command
pub record Goes (at : Option ℕ) (given left : Option (List ℕ)) (walk : Walked) (tells : Command → Type 0)
    (pieces : List (List ℕ)) (start : Contents) (commands : List Command) : Type 0 where
  pub command : Command
  pub closes : ClosesOnce (piece_or_rest walk.pieces)
  pub on : IsOn at given left walk (pieces ++ piece_or_rest walk.pieces ∷ []) start (commands ++ command ∷ [])
  pub told : tells command

-- the piece is performed, and the place is after it
pub record Performs (old new : Walked) (command : Command) : Type 0 where
  pub is_record : IsRecord (piece_or_rest old.pieces) command (old.state.count + 1)
  pub done : step old.state command Enough ≡ Ok new.state
  pub pieces : new.pieces ≡ old.pieces
  pub number : new.place.number ≡ old.place.number + 1
  pub byte : new.place.byte ≡ old.place.byte + length (piece_or_rest old.pieces)
  pub feeds : new.place.feeds ≡ old.place.feeds + line_feeds (piece_or_rest old.pieces)

-- why the piece is not performed
abbrev pub RefusesPiece : Walked → HistoryFault → Type 0
RefusesPiece walk (Damaged bad) = IsBadHere walk bad
RefusesPiece walk OutOfMemory = Unit {0}
RefusesPiece walk fault = ⊥

-- the numbers of the place stay small when it goes past the piece
pub record HasRoom (pieces : Pieces) (place : Place) : Type 0 where
  pub few : place.number ≤ place.byte
  pub lines : place.feeds ≤ place.byte
  pub short : place.byte + length (piece_or_rest pieces) ≤ store_limit
