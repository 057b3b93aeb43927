-- Whether a record stands among pieces that are found one closing line after the other.
use Rattle.std.{proofs.{Common.{◌≡◌, refl, arith}, lemmas.List.Elements.{Contains-append_left, Contains-append_right}}, specs.Prelude.ℕ}
use Rattle.std.specs.Prelude.{Bool, true, false, not, ◌==◌, ◌&&◌, ◌||◌, ◌-◌, List, [], ◌∷◌, ◌++◌, length, drop, slice_range, Contains}
use Rattle.std.specs.List.{list_any}
use Rattle.conf_store.proofs.Prelude.{All, All-nil, All-push, take_all, length-drop, PieceBetween, RestUnclosed, SomePieces, IsNextClosing}
use Rattle.conf_store.proofs.{Prelude.{StartsLine, NoClosingAfter, IsNoRecord, no_zero}, PieceLemmas.{SoFar, nothing-so_far, further-piece}}
use Rattle.conf_store.{proofs.{PieceLemmas.no-further-piece, RecoveryLemmas.pieces-all}, specs.Holes.{IsAnyRecord, KeepsRecord}}
use Rattle.conf_store.specs.Holes.{LacksRecord}

-- the bytes up to a place are pieces of which none is a record
pub record LacksSoFar (bytes : List ℕ) (at : ℕ) : Type 0 where
  pub pieces : List (List ℕ)
  pub so_far : SoFar bytes at pieces
  pub none : All IsNoRecord pieces

pub nothing-lacks : (bytes : List ℕ) → LacksSoFar bytes 0
nothing-lacks bytes = record { pieces = []; so_far = nothing-so_far bytes; none = All-nil IsNoRecord }

pub more-lacks : PieceBetween → (bytes : List ℕ) (at place : ℕ) → StartsLine bytes at → IsNextClosing bytes at place
    → LacksSoFar bytes at → IsNoRecord (slice_range bytes at place) → LacksSoFar bytes place
more-lacks piece_between bytes at place starts next lacks none = record {
  pieces = lacks.pieces ++ slice_range bytes at place ∷ [];
  so_far = further-piece piece_between bytes at place lacks.pieces starts next lacks.so_far;
  none = All-push IsNoRecord lacks.pieces (slice_range bytes at place) lacks.none none;
}

pub all-lacks : RestUnclosed → (bytes : List ℕ) (at : ℕ) → StartsLine bytes at → NoClosingAfter bytes at
    → LacksSoFar bytes at → LacksRecord bytes
all-lacks rest_unclosed bytes at starts none lacks = record {
  pieces = lacks.pieces;
  rest = drop at bytes;
  cut = no-further-piece rest_unclosed bytes at lacks.pieces starts none lacks.so_far;
  none = lacks.none;
}

holds-last : (pieces : List (List ℕ)) (piece : List ℕ) (further : List (List ℕ)) → Contains ((pieces ++ piece ∷ []) ++ further) piece
holds-last pieces piece further =
    Contains-append_left (pieces ++ piece ∷ []) further piece (Contains-append_right pieces (piece ∷ []) piece (0, omega arith, refl))

pub found-keeps : PieceBetween → SomePieces → (bytes : List ℕ) (at place : ℕ) → StartsLine bytes at → IsNextClosing bytes at place
    → LacksSoFar bytes at → IsAnyRecord (slice_range bytes at place) → KeepsRecord bytes
found-keeps piece_between some bytes at place starts next lacks is =
    let piece = slice_range bytes at place in
    let all = pieces-all some bytes place (lacks.pieces ++ piece ∷ [])
    (further-piece piece_between bytes at place lacks.pieces starts next lacks.so_far) in
    record {
      pieces = (lacks.pieces ++ piece ∷ []) ++ all.0;
      rest = all.1;
      cut = all.2;
      holds = (piece, holds-last lacks.pieces piece all.0, is);
    }

-- the bytes from a place on
pub slice-rest : (bytes : List ℕ) (place : ℕ) → slice_range bytes place (length bytes) ≡ drop place bytes
slice-rest bytes place = take_all (length bytes - place) (drop place bytes) (omega (arith, length-drop place bytes))

-- whether one is 0
pub any-zero : (bytes : List ℕ) → no_zero bytes ≡ not (list_any (λ b. b == 0) bytes)
any-zero [] = refl
any-zero (b ∷ bs) = one (b == 0) (list_any (λ c. c == 0) bs) (any-zero bs)
  where
    one : (is some : Bool) → no_zero bs ≡ not some → (not is && no_zero bs) ≡ not (is || some)
    one true some more = refl
    one false some more = more
