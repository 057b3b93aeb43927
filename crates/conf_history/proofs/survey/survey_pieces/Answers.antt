-- Each turn performs one piece, up to the first bad one.
use Rattle.std.{proofs.Common.{◌≡◌, rules, ◌≤◌, refl, sym, ap, subst, [], ◌∷◌, ◌++◌}, specs.Prelude.{Ok, None}}
use Rattle.conf_history.specs.{Prelude.is_several, declared.{fault.HistoryFault.TheVariants.Damaged, place.BadPiece.BadPiece}}
use Rattle.conf_history.{specs.Walks.{IsBadHere, Stops, with_state}, proofs.Prelude.{err_from_is_err_and, piece_or_rest}}
use Rattle.conf_history.proofs.{ReadingLemmas.{ended-whole, goes-further}, SurveyLemmas.{counted-from, not-bad, not-started}}
use Rattle.conf_history.proofs.{SurveyLemmas.surveyed-whole, WalkLemmas.has-room}
use Rattle.conf_history.proofs.survey.survey_pieces.Goals as goal

pub returns-in_err-held-clause-refused : goal.returns-in_err-held-clause-refused
returns-in_err-held-clause-refused g c =
    let given = g.R.Read.remaining c.args.reader.now in
    let fails = not-started given c.in_err-held.field-0.0
    (c.in_err-held.ensures.refused given (g.R.Read.remaining c.begin.new.reader) c.in_ok-walk.ensures.ok) in
    let p = err_from_is_err_and c.from_residual-in_err-held.result c.from_residual-in_err-held.ensures.1 in
    rw (p.1, p.2) fails

pub records-init : goal.records-init
records-init g c = (
  piece_or_rest c.in_ok-walk.walk.pieces ∷ [],
  g.T.Replayed.contents c.in_ok-held.held,
  [],
  c.in_ok-held.ensures.ok (g.R.Read.remaining c.args.reader.now) (g.R.Read.remaining c.begin.new.reader) c.in_ok-walk.ensures.ok,
  c.accepted-base.ensures.count,
)

pub step-requires : goal.step-requires
step-requires g c =
    let walked = c.records.invariant in
    record { given = g.R.Read.remaining c.args.reader.now; pieces = walked.0; start = walked.1; commands = walked.2; on = walked.3 }

pub records-smaller : goal.records-smaller
records-smaller g c =
    let given = g.R.Read.remaining c.args.reader.now in
    let walked = c.records.invariant in
    let goes = c.in-Ok-true.ensures.goes given walked.0 walked.1 walked.2 walked.3 (ap Ok c.in-Ok-true.field-0-test) in
    goes-further given (g.R.Read.remaining c.records.reader) (g.R.Read.remaining c.step.new.reader)
    (with_state c.records.walk (g.T.Replayed.contents c.records.held)) (with_state c.step.new.self (g.T.Replayed.contents c.step.new.held))
    walked.0 (piece_or_rest c.step.new.self.pieces) walked.1 walked.2 (walked.2 ++ goes.command ∷ []) walked.3.between
    goes.closes goes.on.between

pub records-preserved : goal.records-preserved
records-preserved g c =
    let walked = c.records.invariant in
    let goes = c.in-Ok-true.ensures.goes (g.R.Read.remaining c.args.reader.now) walked.0 walked.1 walked.2 walked.3
    (ap Ok c.in-Ok-true.field-0-test) in
    (walked.0 ++ piece_or_rest c.step.new.self.pieces ∷ [], walked.1, walked.2 ++ goes.command ∷ [], goes.on, walked.4)

pub findings-findings-requires : goal.findings-findings-requires
findings-findings-requires g c =
    let given = g.R.Read.remaining c.args.reader.now in
    let left = g.R.Read.remaining c.step.new.reader in
    let walked = c.records.invariant in
    let walk = with_state c.step.new.self (g.T.Replayed.contents c.step.new.held) in
    let ended = c.in-Ok-false.ensures.ended given walked.0 walked.1 walked.2 walked.3 (ap Ok c.in-Ok-false.field-0-test) in
    let whole = ended-whole given left walk walked.0 walked.1 walked.2 ended.0 in
    subst (λ n. c.accepted-base.result ≤ n) (sym c.accepted.ensures.count)
    (counted-from walked.0 walked.1 walked.2 walk.state whole.performed c.accepted-base.result walked.4)

pub returns-in-Ok-false-clause-ok : goal.returns-in-Ok-false-clause-ok
returns-in-Ok-false-clause-ok g c =
    let given = g.R.Read.remaining c.args.reader.now in
    let left = g.R.Read.remaining c.step.new.reader in
    let walked = c.records.invariant in
    let walk = with_state c.step.new.self (g.T.Replayed.contents c.step.new.held) in
    let ended = c.in-Ok-false.ensures.ended given walked.0 walked.1 walked.2 walked.3 (ap Ok c.in-Ok-false.field-0-test) in
    let whole = ended-whole given left walk walked.0 walked.1 walked.2 ended.0 in
    let reads = surveyed-whole (is_several c.args.waiting) given left walk walked.0 walked.1 walked.2 whole c.accepted-base.result
    c.accepted.result walked.4
    c.accepted.ensures.count ended.1 c.findings-findings.result c.findings-findings.ensures in
    (walk.state, reads, g.T.Replayed.keeps c.step.new.held)

pub find_after-requires-clause-limits : goal.find_after-requires-clause-limits
find_after-requires-clause-limits g c =
    let given = g.R.Read.remaining c.args.reader.now in
    let walked = c.records.invariant in
    let walk = with_state c.step.new.self (g.T.Replayed.contents c.records.held) in
    let stops = subst (Stops None given (g.R.Read.remaining c.step.new.reader) walk walked.0 walked.1 walked.2)
    c.in-Err-Damaged.field-0-is (c.in-Err-Damaged.ensures.stops given walked.0 walked.1 walked.2 walked.3) in
    stops.0.read.limits

pub find_after-requires-clause-room : goal.find_after-requires-clause-room
find_after-requires-clause-room g c =
    let given = g.R.Read.remaining c.args.reader.now in
    let left = g.R.Read.remaining c.step.new.reader in
    let walked = c.records.invariant in
    let walk = with_state c.step.new.self (g.T.Replayed.contents c.records.held) in
    let stops = subst (Stops None given left walk walked.0 walked.1 walked.2)
    c.in-Err-Damaged.field-0-is (c.in-Err-Damaged.ensures.stops given walked.0 walked.1 walked.2 walked.3) in
    has-room given left walk walked.0 walked.1 walked.2 stops.0

pub find_after-requires-clause-base : goal.find_after-requires-clause-base
find_after-requires-clause-base g c =
    let walked = c.records.invariant in
    subst (λ n. c.accepted-base.result ≤ n) (sym c.accepted-count.ensures.count)
    (counted-from walked.0 walked.1 walked.2 (g.T.Replayed.contents c.records.held) walked.3.between.performed
    c.accepted-base.result walked.4)

pub returns-in_err-findings-in-Err-Damaged-clause-refused : goal.returns-in_err-findings-in-Err-Damaged-clause-refused
returns-in_err-findings-in-Err-Damaged-clause-refused g c =
    let given = g.R.Read.remaining c.args.reader.now in
    let walked = c.records.invariant in
    let before = g.T.Replayed.contents c.records.held in
    let walk = with_state c.step.new.self before in
    let stops = subst (Stops None given (g.R.Read.remaining c.step.new.reader) walk walked.0 walked.1 walked.2)
    c.in-Err-Damaged.field-0-is (c.in-Err-Damaged.ensures.stops given walked.0 walked.1 walked.2 walked.3) in
    let fails = c.in_err-findings-in-Err-Damaged.ensures.refused given before walked.0 walked.1 walked.2 stops.0 in
    let p = err_from_is_err_and c.from_residual-in_err-findings-in-Err-Damaged.result
    c.from_residual-in_err-findings-in-Err-Damaged.ensures.1 in
    rw (p.1, p.2) fails

pub returns-in-Err-Damaged-clause-ok : goal.returns-in-Err-Damaged-clause-ok
returns-in-Err-Damaged-clause-ok g c =
    let given = g.R.Read.remaining c.args.reader.now in
    let walked = c.records.invariant in
    let before = g.T.Replayed.contents c.records.held in
    let walk = with_state c.step.new.self before in
    let stops = subst (Stops None given (g.R.Read.remaining c.step.new.reader) walk walked.0 walked.1 walked.2)
    c.in-Err-Damaged.field-0-is (c.in-Err-Damaged.ensures.stops given walked.0 walked.1 walked.2 walked.3) in
    let told = subst (IsBadHere walk) (sym c.in-Err-Damaged.bad-is) stops.1 in
    let reads = c.in_ok-findings-in-Err-Damaged.ensures.ok given before walked.0 walked.1 walked.2 stops.0 told walked.4
    c.accepted-count.ensures.count c.accepted-count.ensures.limits in
    (before, reads, c.in-Err-Damaged.ensures.kept refl)

pub returns-in-Err : goal.returns-in-Err
returns-in-Err g c =
    let given = g.R.Read.remaining c.args.reader.now in
    let walked = c.records.invariant in
    let fault = c.in-Err.fault in
    let other : (bad : BadPiece) → fault ≡ Damaged bad → ⊥ = search rules in
    record {
      ok = tt;
      refused = not-bad given (g.R.Read.remaining c.step.new.reader) (with_state c.step.new.self (g.T.Replayed.contents c.records.held))
          walked.0 walked.1 walked.2 fault other (c.in-Err.ensures.stops given walked.0 walked.1 walked.2 walked.3);
    }
