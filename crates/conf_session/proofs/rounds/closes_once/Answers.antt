-- The first closing line is at the end, or the bytes are not closed once.
use Rattle.std.proofs.Common.{length}
use Rattle.conf_session.proofs.{Prelude.{eqb-true, eq-eqb, false≢true}, RoundLemmas.{once-at, once-nowhere}}
use Rattle.conf_session.proofs.rounds.closes_once.Goals as goal

pub returns-in-Some : goal.returns-in-Some
returns-in-Some c =
    let bytes = c.args.bytes.now in
    let place = c.in-Some.place in
    let found = c.in-Some.ensures.found in (
      λ e. once-at bytes place found (eqb-true place (length bytes) e),
      λ closes. eq-eqb place (length bytes) (closes.once place found.closes),
    )

pub returns-in-None : goal.returns-in-None
returns-in-None c = (λ e. absurd (false≢true e), λ closes. absurd (once-nowhere c.args.bytes.now c.in-None.ensures.none closes))
