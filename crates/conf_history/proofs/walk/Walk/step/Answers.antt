-- The next piece is performed, or the walk has ended, or stopped.
use Rattle.std.{proofs.Common.{sym, subst}, specs.Prelude.{◌+◌, Ok}}
use Rattle.conf_history.proofs.{Prelude.{err_from_is_err_and, piece_or_rest, IsNoRecord}, ReadingLemmas.{goes, stops-at-piece}}
use Rattle.conf_history.{proofs.WalkLemmas.has-room, specs.{Walks.{AfterGoing, Stops, with_state}, declared.walk.Walk.Walk}}
use Rattle.conf_history.proofs.walk.Walk.step.Goals as goal

pub goes_on-requires : goal.goes_on-requires
goes_on-requires g c = c.requires.on.between.limits

pub returns-in_err-goes_on-clause-stops : goal.returns-in_err-goes_on-clause-stops
returns-in_err-goes_on-clause-stops g c = λ given pieces start commands on.
    let before = g.T.Replayed.contents c.args.held.now in
    let stops = c.in_err-goes_on.ensures given before pieces start commands c.accepted.ensures.count on in
    let p = err_from_is_err_and c.from_residual.result c.from_residual.ensures.1 in
    rw (p.1, p.2) stops

pub replay_piece-requires : goal.replay_piece-requires
replay_piece-requires g c =
    let before = g.T.Replayed.contents c.args.held.now in
    let r = c.requires in
    let left = g.R.Read.remaining c.goes_on.new.reader in
    let walk = with_state c.goes_on.new.self before in
    let going = subst (λ b. AfterGoing c.args.at r.given left walk r.pieces r.start r.commands (Ok b)) c.if-branch.true
    (c.in_ok-goes_on.ensures r.given before r.pieces r.start r.commands c.accepted.ensures.count r.on) in
    has-room r.given left walk r.pieces r.start r.commands going.1

pub returns-in_err-replay_piece-clause-stops : goal.returns-in_err-replay_piece-clause-stops
returns-in_err-replay_piece-clause-stops g c = λ given pieces start commands on.
    let before = g.T.Replayed.contents c.args.held.now in
    let left = g.R.Read.remaining c.goes_on.new.reader in
    let walk = with_state c.goes_on.new.self before in
    let going = subst (λ b. AfterGoing c.args.at given left walk pieces start commands (Ok b)) c.if-branch.true
    (c.in_ok-goes_on.ensures given before pieces start commands c.accepted.ensures.count on) in
    let f = c.in_err-replay_piece.field-0.0 in
    let stops = subst (λ (w : Walk). Stops c.args.at given left (with_state w before) pieces start commands f)
    (sym c.in_err-replay_piece.ensures.walk)
    (stops-at-piece c.args.at given left walk pieces start commands going.0 going.1 f c.in_err-replay_piece.ensures.refused) in
    let p = err_from_is_err_and c.from_residual-in_err-replay_piece.result c.from_residual-in_err-replay_piece.ensures.1 in
    rw (p.1, p.2) stops

pub returns-then-branch-clause-goes : goal.returns-then-branch-clause-goes
returns-then-branch-clause-goes g c = λ given pieces start commands on is.
    let before = g.T.Replayed.contents c.args.held.now in
    let left = g.R.Read.remaining c.goes_on.new.reader in
    let walk = with_state c.goes_on.new.self before in
    let going = subst (λ b. AfterGoing c.args.at given left walk pieces start commands (Ok b)) c.if-branch.true
    (c.in_ok-goes_on.ensures given before pieces start commands c.accepted.ensures.count on) in
    let done = c.in_ok-replay_piece.ensures.ok in
    goes c.args.at given left walk pieces start commands going.0 going.1
    (with_state c.replay_piece.new.self (g.T.Replayed.contents c.replay_piece.new.held))
    (g.T.Replayed.Tells c.args.held.now c.replay_piece.new.held (before.count + 1)) done.0 done.1 done.2

pub returns-clause-ended : goal.returns-clause-ended
returns-clause-ended g c = λ given pieces start commands on is.
    let before = g.T.Replayed.contents c.args.held.now in
    let left = g.R.Read.remaining c.goes_on.new.reader in
    let walk = with_state c.goes_on.new.self before in (
      subst (λ b. AfterGoing c.args.at given left walk pieces start commands (Ok b)) c.if-branch.false
          (c.in_ok-goes_on.ensures given before pieces start commands c.accepted.ensures.count on),
      c.accepted.ensures.limits,
    )

pub returns-in_err-replay_piece-clause-unread : goal.returns-in_err-replay_piece-clause-unread
returns-in_err-replay_piece-clause-unread g c none =
    let stays = c.in_err-replay_piece.ensures.unread
    (subst (λ (w : Walk). IsNoRecord (piece_or_rest w.pieces)) c.in_err-replay_piece.ensures.walk none) in
    let p = err_from_is_err_and c.from_residual-in_err-replay_piece.result c.from_residual-in_err-replay_piece.ensures.1 in
    rw (p.1) stays
