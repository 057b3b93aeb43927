-- A piece that is no next record is the first bad one.
use Rattle.std.proofs.Common.{sym, subst}
use Rattle.conf_history.{proofs.{Prelude.{IsNoRecord, RefusesRecord}, WalkLemmas.refuses-here}, specs.Walks.{RefusesPiece, with_state}}
use Rattle.conf_history.proofs.walk.Walk.replay_piece.Goals as goal

pub returns-in-Err-clause-refused : goal.returns-in-Err-clause-refused
returns-in-Err-clause-refused g c =
    let walk = with_state c.args.self.now (g.T.Replayed.contents c.args.held.now) in
    let fault = c.in-Err.fault in
    subst (RefusesPiece walk) (sym c.fault_here.ensures)
    (refuses-here walk fault (subst (λ piece. RefusesRecord piece walk.state fault) c.piece.ensures c.in-Err.ensures.refused))

pub returns-in-Ok-clause-unread : goal.returns-in-Ok-clause-unread
returns-in-Ok-clause-unread g c none = c.in-Ok.ensures.unread (subst IsNoRecord (sym c.piece.ensures) none)

pub returns-in-Err-clause-unread : goal.returns-in-Err-clause-unread
returns-in-Err-clause-unread g c none = c.in-Err.ensures.unread (subst IsNoRecord (sym c.piece.ensures) none)
