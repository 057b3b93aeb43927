-- What follows a bad piece.
use Rattle.std.specs.Prelude.{◌≡◌, ◌≤◌, ℕ, Bool, if◌then◌else◌, List, ◌++◌, length, Option, Result, Ok, Err, IfSome}
use Rattle.conf_history.specs.Prelude.{All, concat, Consumes, IsAtEnd, ClosesOnce, Unclosed, piece_or_rest, store_limit}
use Rattle.conf_history.specs.declared.{fault.HistoryFault.HistoryFault, following.{Following.Following, BadKind.TheVariants.Torn}}
use Rattle.conf_history.specs.{declared.following.BadKind.TheVariants.Unexpected, Histories.{IsOfKind, RefusesSurvey}}
use Rattle.yaml_docs.specs.declared.pieces.Pieces.{Pieces}

-- so many pieces, behind a piece of which it is known whether no crash left it
abbrev pub following_of : ℕ → Bool → Following
following_of pieces is_kept = record { pieces = pieces; kind = if is_kept then Unexpected else Torn }

-- After the bytes `read`, which end with the bad piece, come so many pieces, and then a rest that is not closed. The file
-- was read to its end.
pub record Follow (several : Bool) (given left : Option (List ℕ)) (read bad : List ℕ) (now : Pieces) (following : Following) : Type 0 where
  pub further : List (List ℕ)
  pub taken : Consumes given left (read ++ (concat further ++ piece_or_rest now))
  pub at_end : IsAtEnd left
  pub short : length (read ++ (concat further ++ piece_or_rest now)) ≤ store_limit
  pub closed : All ClosesOnce further
  pub unclosed : Unclosed (piece_or_rest now)
  pub counted : length further ≡ following.pieces
  pub kind : IsOfKind several following.kind bad further

-- after all further pieces were gone past, or why they weren't
abbrev pub AfterLook : Bool → Option (List ℕ) → Option (List ℕ) → List ℕ → List ℕ → Pieces → Result Following HistoryFault → Type 0
AfterLook several given left read bad now (Ok following) = Follow several given left read bad now following
AfterLook several given left read bad now (Err fault) = IfSome given (λ bytes. RefusesSurvey bytes fault)
