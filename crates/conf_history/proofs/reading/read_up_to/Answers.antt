-- Each turn performs one piece.
use Rattle.std.{proofs.Common.{ap, [], ◌∷◌, ◌++◌}, specs.Prelude.Ok}
use Rattle.conf_history.{specs.{Prelude.is_several, Walks.with_state}, proofs.Prelude.{err_from_is_err_and, piece_or_rest}}
use Rattle.conf_history.proofs.ReadingLemmas.{goes-further, reads-state, fails-reading, refuses-start}
use Rattle.conf_history.proofs.reading.read_up_to.Goals as goal

pub returns-in_err-held-clause-refused : goal.returns-in_err-held-clause-refused
returns-in_err-held-clause-refused g c =
    let given = g.R.Read.remaining c.args.reader.now in
    let fails = refuses-start (is_several c.args.waiting) given c.args.at c.in_err-held.field-0.0
    (c.in_err-held.ensures.refused given (g.R.Read.remaining c.begin.new.reader) c.in_ok-walk.ensures.ok) in
    let p = err_from_is_err_and c.from_residual-in_err-held.result c.from_residual-in_err-held.ensures.1 in
    rw (p.1, p.2) fails

pub records-init : goal.records-init
records-init g c = (
  piece_or_rest c.in_ok-walk.walk.pieces ∷ [],
  g.T.Replayed.contents c.in_ok-held.held,
  [],
  c.in_ok-held.ensures.ok (g.R.Read.remaining c.args.reader.now) (g.R.Read.remaining c.begin.new.reader) c.in_ok-walk.ensures.ok,
)

pub next-requires : goal.next-requires
next-requires g c =
    let walked = c.records.invariant in
    record { given = g.R.Read.remaining c.args.reader.now; pieces = walked.0; start = walked.1; commands = walked.2; on = walked.3 }

pub returns-in_err-next-clause-refused : goal.returns-in_err-next-clause-refused
returns-in_err-next-clause-refused g c =
    let given = g.R.Read.remaining c.args.reader.now in
    let walked = c.records.invariant in
    let fails = fails-reading (is_several c.args.waiting) given c.args.at walked.0 c.in_err-next.field-0.0
    (c.in_err-next.ensures.stops given walked.0 walked.1 walked.2 walked.3) in
    let p = err_from_is_err_and c.from_residual-in_err-next.result c.from_residual-in_err-next.ensures.1 in
    rw (p.1, p.2) fails

pub records-smaller : goal.records-smaller
records-smaller g c =
    let given = g.R.Read.remaining c.args.reader.now in
    let walked = c.records.invariant in
    let goes = c.in_ok-next.ensures.goes given walked.0 walked.1 walked.2 walked.3 (ap Ok c.if-branch.true) in
    goes-further given (g.R.Read.remaining c.records.reader) (g.R.Read.remaining c.next.new.reader)
    (with_state c.records.walk (g.T.Replayed.contents c.records.held)) (with_state c.next.new.self (g.T.Replayed.contents c.next.new.held))
    walked.0 (piece_or_rest c.next.new.self.pieces) walked.1 walked.2 (walked.2 ++ goes.command ∷ []) walked.3.between
    goes.closes goes.on.between

pub records-preserved : goal.records-preserved
records-preserved g c =
    let walked = c.records.invariant in
    let goes = c.in_ok-next.ensures.goes (g.R.Read.remaining c.args.reader.now) walked.0 walked.1 walked.2 walked.3
    (ap Ok c.if-branch.true) in
    (walked.0 ++ piece_or_rest c.next.new.self.pieces ∷ [], walked.1, walked.2 ++ goes.command ∷ [], goes.on)

pub returns-clause-ok : goal.returns-clause-ok
returns-clause-ok g c =
    let given = g.R.Read.remaining c.args.reader.now in
    let walked = c.records.invariant in
    let ended = c.in_ok-next.ensures.ended given walked.0 walked.1 walked.2 walked.3 (ap Ok c.if-branch.false) in
    reads-state c.args.at given (g.R.Read.remaining c.next.new.reader)
    (with_state c.next.new.self (g.T.Replayed.contents c.next.new.held)) walked.0 walked.1 walked.2
    (is_several c.args.waiting) c.one_list_of_pieces.ensures.some ended.0 ended.1
