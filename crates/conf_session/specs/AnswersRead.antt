-- What the documents of answers read as, as a statement.
use Rattle.std.specs.Prelude.{◌≡◌, ℕ, List, Some}
use Rattle.conf_session.specs.{Prelude.{ClosesOnce, IsKept, IsRead, IsState, Tree, own_limits}, Requests.Request, Answers.{Stored, answer}}
use Rattle.conf_session.specs.Answers.{answer_bytes}

-- The tree is good within a Config's own limits. The bytes are closed once, at their end, and read as the tree, and as
-- no other.
pub record IsDocumentOf (t : Tree) (bytes : List ℕ) : Type 0 where
  pub good : IsKept t
  pub closes : ClosesOnce bytes
  pub reads : IsRead bytes own_limits t
  pub once : (other : Tree) → IsRead bytes own_limits other → other ≡ t

-- each answer on a state that keeps its limits is read back as its tree
abbrev pub AnswersAreRead : Type 0
AnswersAreRead = (now : Stored) (request : Request) (t : Tree) → IsState now.state
    → answer now request ≡ Some t → IsDocumentOf t (answer_bytes now request)
