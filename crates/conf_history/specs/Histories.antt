-- What the bytes of a store's file hold: at each command, and before a bad piece.
use Rattle.std.specs.Prelude.{◌≡◌, ◌<◌, ◌≤◌, ◌⊎◌, ℕ, suc, Bool, false, List, [], ◌∷◌, ◌++◌, length, Option, Some, None, IfSome}
use Rattle.conf_history.specs.Prelude.{concat, Consumes, IsAtEnd, Pieces, store_limit, Contents, IsState, IsBase, PiecesMean, Means}
use Rattle.conf_history.specs.{Prelude.{HasNoBase, IsKept, MayBeDropped, no_zero}, BadPieces.{IsBadPiece, zeros_of}}
use Rattle.conf_history.specs.declared.{place.BadPiece.BadPiece, fault.HistoryFault.{HistoryFault, TheVariants.{Input, Output, NotAStore}}}
use Rattle.conf_history.specs.declared.{fault.HistoryFault.TheVariants.{Damaged, NoSuchCommand, OutOfMemory}, following.BadKind.BadKind}
use Rattle.conf_history.specs.declared.{following.BadKind.TheVariants.{Torn, Unexpected}, survey.{Bad.Bad, Findings.Findings}}

-- The first pieces of the bytes are a base and the records up to the one with this number, and mean `s`.
pub record MeansUpTo (bytes : List ℕ) (number : ℕ) (s : Contents) : Type 0 where
  pub pieces : List (List ℕ)
  pub further : List (List ℕ)
  pub rest : List ℕ
  pub cut : Pieces bytes (pieces ++ further) rest
  pub mean : PiecesMean pieces s
  pub numbered : s.count ≡ number

-- the state after all commands, or after the one with a number
abbrev pub HoldsAt : Bool → List ℕ → Option ℕ → Contents → Type 0
HoldsAt several bytes None s = Means several bytes s
HoldsAt several bytes (Some number) s = MeansUpTo bytes number s

-- The pieces before the first bad one mean `s`, and so many pieces follow it. No crash left it so.
pub record IsBadAt (several : Bool) (bytes : List ℕ) (s : Contents) (bad : BadPiece) (following : ℕ) : Type 0 where
  pub pieces : List (List ℕ)
  pub piece : List ℕ
  pub further : List (List ℕ)
  pub rest : List ℕ
  pub cut : Pieces bytes (pieces ++ piece ∷ further) rest
  pub mean : PiecesMean pieces s
  pub is_bad : IsBadPiece pieces piece s bad
  pub kept : IsKept several piece further
  pub counted : length further ≡ following

-- The first piece is a base with a count above this number.
pub record StartsAfter (bytes : List ℕ) (number : ℕ) : Type 0 where
  pub base : List ℕ
  pub further : List (List ℕ)
  pub rest : List ℕ
  pub cut : Pieces bytes (base ∷ further) rest
  pub start : Contents
  pub is_base : IsBase base start
  pub above : number < start.count

-- the base comes after the command with this number, or all records before it
abbrev pub HasNoCommand : Bool → List ℕ → ℕ → Type 0
HasNoCommand several bytes number = StartsAfter bytes number ⊎ ((s : Contents) × Means several bytes s × (s.count < number))

-- the bytes are too many, or have no base
abbrev pub IsNoStore : List ℕ → Type 0
IsNoStore bytes = (store_limit < length bytes) ⊎ HasNoBase bytes

-- Why the bytes don't answer with a state. With a number, Damaged is told of a piece up to its record alone: the state
-- before the piece has a smaller count. Input and OutOfMemory say nothing of the bytes.
abbrev pub RefusesReading : Bool → List ℕ → Option ℕ → HistoryFault → Type 0
RefusesReading several bytes at NotAStore = IsNoStore bytes
RefusesReading several bytes at (Damaged bad) =
    (s : Contents) × (following : ℕ) × IsBadAt several bytes s bad following × IfSome at (λ number. s.count < number)
RefusesReading several bytes None NoSuchCommand = ⊥
RefusesReading several bytes (Some number) NoSuchCommand = HasNoCommand several bytes number
RefusesReading several bytes at Output = ⊥
RefusesReading several bytes at Input = Unit {0}
RefusesReading several bytes at OutOfMemory = Unit {0}

-- at most so many bytes were read
abbrev pub ReadsAtMost : ℕ → Option (List ℕ) → Option (List ℕ) → Type 0
ReadsAtMost most given left = (read : List ℕ) × Consumes given left read × (length read ≤ most)

-- What is returned is the state that known bytes hold. At most 1,073,741,824 bytes were read; all that there are, if no
-- number was given.
pub record ReadsState (several : Bool) (given left : Option (List ℕ)) (at : Option ℕ)
    (s : Contents) : Type 0 where
  pub holds : IfSome given (λ bytes. HoldsAt several bytes at s)
  pub kept : IsState s
  pub read : ReadsAtMost store_limit given left
  pub whole : at ≡ None → IsAtEnd left

-- ---- a survey

-- Whether a crash may have left a bad piece, which these follow: it has a zero, and they may be dropped.
abbrev pub IsOfKind : Bool → BadKind → List ℕ → List (List ℕ) → Type 0
IsOfKind several Torn piece further = (no_zero piece ≡ false) × MayBeDropped several further
IsOfKind several Unexpected piece further = IsKept several piece further

-- The pieces after these: none, or a bad one and others.
abbrev pub AreUnread : Bool → List (List ℕ) → List (List ℕ) → Contents → Option Bad → Type 0
AreUnread several before [] s None = Unit {0}
AreUnread several before [] s (Some bad) = ⊥
AreUnread several before (piece ∷ further) s None = ⊥
AreUnread several before (piece ∷ further) s (Some bad) =
    IsBadPiece before piece s bad.piece × (length further ≡ bad.following) × IsOfKind several bad.kind piece further
    × (bad.zeros ≡ zeros_of bad.piece.byte piece)

-- The bytes begin with a base and records, which mean `s`. An opening keeps these. What comes after them is as the
-- findings say.
pub record IsSurvey (several : Bool) (bytes : List ℕ) (s : Contents) (findings : Findings) : Type 0 where
  pub short : length bytes ≤ store_limit
  pub pieces : List (List ℕ)
  pub unread : List (List ℕ)
  pub rest : List ℕ
  pub cut : Pieces bytes (pieces ++ unread) rest
  pub mean : PiecesMean pieces s
  pub base : findings.base ≡ mean.start.count
  pub commands : length pieces ≡ suc findings.commands
  pub kept : length (concat pieces) ≡ findings.kept
  pub dropped : length rest ≡ findings.dropped
  pub bad : AreUnread several pieces unread s findings.bad

-- What is returned is what was found in the known bytes. All that there are were read, at most 1,073,741,824.
pub record ReadsSurvey (several : Bool) (given left : Option (List ℕ)) (s : Contents)
    (findings : Findings) : Type 0 where
  pub holds : IfSome given (λ bytes. IsSurvey several bytes s findings)
  pub kept : IsState s
  pub at_end : IsAtEnd left
  pub read : ReadsAtMost store_limit given left

-- Why the bytes can't be surveyed. Input and OutOfMemory say nothing of them.
abbrev pub RefusesSurvey : List ℕ → HistoryFault → Type 0
RefusesSurvey bytes NotAStore = IsNoStore bytes
RefusesSurvey bytes Input = Unit {0}
RefusesSurvey bytes OutOfMemory = Unit {0}
RefusesSurvey bytes fault = ⊥
