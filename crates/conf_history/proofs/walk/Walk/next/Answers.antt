-- At a bad piece, what follows it says whether a crash may have left it.
use Rattle.std.{proofs.Common.{◌≡◌, rules, refl, inl, inr, sym, ◌∙◌, ap, subst, ◌++◌}, specs.Prelude.{IfErr, Result, Bool}}
use Rattle.conf_history.specs.{Prelude.is_several, Walks.{Fails, IsTornBehind, Stops, with_state}, declared.fault.HistoryFault.HistoryFault}
use Rattle.conf_history.{specs.declared.{fault.HistoryFault.TheVariants.Damaged, place.BadPiece.BadPiece}, proofs.Prelude.concat}
use Rattle.conf_history.proofs.{Prelude.{err_from_is_err_and, piece_or_rest, Contents, IsState}, ReadingLemmas.{fails-at, fails-lacking}}
use Rattle.conf_history.proofs.{ReadingLemmas.{fails-stop, torn-at, torn-none}, SurveyLemmas.past-piece, WalkLemmas.torn-followed}
use Rattle.conf_history.proofs.walk.Walk.next.Goals as goal

pub returns-in-Ok-clause-ended : goal.returns-in-Ok-clause-ended
returns-in-Ok-clause-ended g c given pieces start commands on is =
    let ended = c.in-Ok.ensures.ended given pieces start commands on is in (inl ended.0, ended.1)

pub returns-in-Err-clause-stops : goal.returns-in-Err-clause-stops
returns-in-Err-clause-stops g c given pieces start commands on =
    let fault = c.in-Err.fault in
    let other : (bad : BadPiece) → fault ≡ Damaged bad → ⊥ = search rules in
    fails-stop c.args.at given (g.R.Read.remaining c.step.new.reader) (with_state c.step.new.self (g.T.Replayed.contents c.args.held.now))
    pieces start commands (is_several c.args.waiting) fault other (c.in-Err.ensures.stops given pieces start commands on)

-- ---- a bad piece

pub look_behind-requires : goal.look_behind-requires
look_behind-requires g c =
    let r = c.requires in
    let mid = g.R.Read.remaining c.step.new.reader in
    let walk = with_state c.step.new.self (g.T.Replayed.contents c.args.held.now) in
    let stops = subst (Stops c.args.at r.given mid walk r.pieces r.start r.commands) c.in-Err-Damaged.field-0-is
    (c.in-Err-Damaged.ensures.stops r.given r.pieces r.start r.commands r.on) in
    stops.0.read.limits

pub returns-in_err-kind-in-Err-Damaged-clause-stops : goal.returns-in_err-kind-in-Err-Damaged-clause-stops
returns-in_err-kind-in-Err-Damaged-clause-stops g c given pieces start commands on =
    let mid = g.R.Read.remaining c.step.new.reader in
    let walk = with_state c.step.new.self (g.T.Replayed.contents c.args.held.now) in
    let stops : Stops c.args.at given mid walk pieces start commands (Damaged c.in-Err-Damaged.bad) =
    subst (λ bad. Stops c.args.at given mid walk pieces start commands (Damaged bad)) (sym c.in-Err-Damaged.bad-is)
    (subst (Stops c.args.at given mid walk pieces start commands) c.in-Err-Damaged.field-0-is
    (c.in-Err-Damaged.ensures.stops given pieces start commands on)) in
    let past = past-piece given mid walk pieces start commands stops.0 in
    let fails = fails-lacking (is_several c.args.waiting) given c.args.at pieces c.in_err-kind-in-Err-Damaged.field-0.0
    (c.in_err-kind-in-Err-Damaged.ensures given (concat pieces ++ piece_or_rest walk.pieces) past.0 past.1) in
    let p = err_from_is_err_and c.from_residual.result c.from_residual.ensures.1 in
    rw (p.1, p.2) fails

pub returns-in_ok-kind-in-Err-Damaged-clause-stops : goal.returns-in_ok-kind-in-Err-Damaged-clause-stops
returns-in_ok-kind-in-Err-Damaged-clause-stops g c given pieces start commands on =
    let mid = g.R.Read.remaining c.step.new.reader in
    let walk = with_state c.step.new.self (g.T.Replayed.contents c.args.held.now) in
    let stops : Stops c.args.at given mid walk pieces start commands (Damaged c.in-Err-Damaged.bad) =
    subst (λ bad. Stops c.args.at given mid walk pieces start commands (Damaged bad)) (sym c.in-Err-Damaged.bad-is)
    (subst (Stops c.args.at given mid walk pieces start commands) c.in-Err-Damaged.field-0-is
    (c.in-Err-Damaged.ensures.stops given pieces start commands on)) in
    let left = g.R.Read.remaining c.look_behind.new.reader in
    let past = past-piece given mid walk pieces start commands stops.0 in
    let following = c.in_ok-kind-in-Err-Damaged.field-0 in
    let follows = c.in_ok-kind-in-Err-Damaged.ensures given (concat pieces ++ piece_or_rest walk.pieces) past.0 past.1 in
    subst (λ (r : Result Bool HistoryFault). IfErr r (Fails (is_several c.args.waiting) c.args.at given pieces)) (sym c.ends_at.ensures)
    (fails-at (is_several c.args.waiting) c.args.at given mid left walk pieces start commands c.in-Err-Damaged.bad stops
    c.look_behind.new.pieces following follows
    c.no_zero_read.ensures.bytes following.kind refl c.args.at refl)

pub returns-in_ok-kind-in-Err-Damaged-clause-ended : goal.returns-in_ok-kind-in-Err-Damaged-clause-ended
returns-in_ok-kind-in-Err-Damaged-clause-ended g c given pieces start commands on is =
    let mid = g.R.Read.remaining c.step.new.reader in
    let walk = with_state c.step.new.self (g.T.Replayed.contents c.args.held.now) in
    let stops : Stops c.args.at given mid walk pieces start commands (Damaged c.in-Err-Damaged.bad) =
    subst (λ bad. Stops c.args.at given mid walk pieces start commands (Damaged bad)) (sym c.in-Err-Damaged.bad-is)
    (subst (Stops c.args.at given mid walk pieces start commands) c.in-Err-Damaged.field-0-is
    (c.in-Err-Damaged.ensures.stops given pieces start commands on)) in
    let left = g.R.Read.remaining c.look_behind.new.reader in
    let past = past-piece given mid walk pieces start commands stops.0 in
    let following = c.in_ok-kind-in-Err-Damaged.field-0 in
    let follows = c.in_ok-kind-in-Err-Damaged.ensures given (concat pieces ++ piece_or_rest walk.pieces) past.0 past.1 in
    let torn = torn-at (is_several c.args.waiting) c.args.at given mid left walk pieces start commands c.in-Err-Damaged.bad stops
    c.look_behind.new.pieces following
    follows following.kind refl c.args.at refl (sym c.ends_at.ensures ∙ is) in
    let none = torn-none (is_several c.args.waiting) c.args.at given mid left walk pieces start commands c.in-Err-Damaged.bad stops
    c.look_behind.new.pieces following
    follows c.no_zero_read.ensures.bytes torn.1 in
    let same = ap g.T.Replayed.contents (c.in-Err-Damaged.ensures.unread none) in
    let behind = torn-followed (is_several c.args.waiting) given mid left walk pieces start commands stops.0 c.look_behind.new.pieces
    following follows
    c.no_zero_read.ensures.bytes torn.1 in (
      inr (torn.0, subst (λ s. IsTornBehind (is_several c.args.waiting) given left s pieces start commands) (sym same) behind),
      subst (λ (s : Contents). IsState s) (sym same) c.step.ensures.limits,
    )
