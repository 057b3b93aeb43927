-- Where the number is not reached, the next piece is looked for.
use Rattle.std.{proofs.Common.{inl, inr, sym, ◌∙◌, ap, subst}, specs.Prelude.{Some, Ok}}
use Rattle.conf_history.proofs.{Prelude.err_from_is_err_and, ReadingLemmas.{goes-to-piece, stops-at-end, stops-before}}
use Rattle.conf_history.specs.Walks.{AfterAdvance, IsAtEndOf, IsAtPiece, with_state}
use Rattle.conf_history.proofs.walk.Walk.goes_on.Goals as goal

pub returns-then-is_reached : goal.returns-then-is_reached
returns-then-is_reached g c = λ given s pieces start commands same on.
    inl (c.is_reached.ensures.reached c.if-is_reached.true ∙ ap Some same, on.between)

pub returns-in_err-advance : goal.returns-in_err-advance
returns-in_err-advance g c = λ given s pieces start commands same on.
    let stops = stops-before c.args.at given (g.R.Read.remaining c.advance.new.reader) (with_state c.advance.new.self s) pieces start
    commands c.in_err-advance.field-0.0 (c.in_err-advance.ensures given s pieces start commands on.between) in
    let p = err_from_is_err_and c.from_residual.result c.from_residual.ensures.1 in
    rw (p.1, p.2) stops

pub returns-then-branch : goal.returns-then-branch
returns-then-branch g c = λ given s pieces start commands same on.
    let left = g.R.Read.remaining c.advance.new.reader in
    let walk = with_state c.advance.new.self s in
    let piece : IsAtPiece given left walk pieces start commands =
    subst (λ b. AfterAdvance given left walk pieces start commands (Ok b)) c.if-branch.true
    (c.in_ok-advance.ensures given s pieces start commands on.between) in
    goes-to-piece c.args.at given left walk pieces start commands
    (λ e. c.is_reached.ensures.not_yet c.if-is_reached.false (e ∙ ap Some (sym same))) on.up_to piece

pub returns-in-Some : goal.returns-in-Some
returns-in-Some g c = λ given s pieces start commands same on.
    let left = g.R.Read.remaining c.advance.new.reader in
    let walk = with_state c.advance.new.self s in
    let ended : IsAtEndOf given left walk pieces start commands =
    subst (λ b. AfterAdvance given left walk pieces start commands (Ok b)) c.if-branch.false
    (c.in_ok-advance.ensures given s pieces start commands on.between) in
    stops-at-end c.args.at given left walk pieces start commands c.in-Some.field-0 c.in-Some.is
    (λ e. c.is_reached.ensures.not_yet c.if-is_reached.false (e ∙ ap Some (sym same))) on.up_to ended

pub returns-in-None : goal.returns-in-None
returns-in-None g c = λ given s pieces start commands same on.
    let left = g.R.Read.remaining c.advance.new.reader in
    let walk = with_state c.advance.new.self s in
    let ended : IsAtEndOf given left walk pieces start commands =
    subst (λ b. AfterAdvance given left walk pieces start commands (Ok b)) c.if-branch.false
    (c.in_ok-advance.ensures given s pieces start commands on.between) in
    inr (c.in-None.is, ended)
