-- The next piece, or the end, or why there is none.
use Rattle.std.{proofs.Common.{sym, subst}, specs.Prelude.{Ok, Err}}
use Rattle.conf_history.{specs.Walks.{LacksPiece, with_state}, proofs.WalkLemmas.{own-limits, advances, refuses-next}}
use Rattle.conf_history.proofs.walk.Walk.advance.Goals as goal

pub returns-in-Ok : goal.returns-in-Ok
returns-in-Ok g c = λ given s pieces start commands b.
    let mid = g.R.Read.remaining c.args.reader.now in
    let left = g.R.Read.remaining c.advance.new.reader in
    let old = c.args.self.now in
    let now = c.advance.new.self in
    advances given mid left (with_state old s) now pieces start commands b c.in-Ok.found
    (own-limits mid left old.pieces now (Ok c.in-Ok.found) c.requires c.in-Ok.ensures)

pub returns-in-Err : goal.returns-in-Err
returns-in-Err g c = λ given s pieces start commands b.
    let mid = g.R.Read.remaining c.args.reader.now in
    let left = g.R.Read.remaining c.advance.new.reader in
    let old = c.args.self.now in
    let now = c.advance.new.self in
    subst (LacksPiece given) (sym c.fault_of_pieces.ensures)
    (refuses-next given mid left (with_state old s) now pieces start commands b c.in-Err.fault
    (own-limits mid left old.pieces now (Err c.in-Err.fault) c.requires c.in-Err.ensures))
