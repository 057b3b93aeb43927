use Rattle.conf_session.{proofs.{Prelude.err_from_is_err_and, RequestLemmas.{handles-none, handles-retold}}, specs.Requests.Asks}
use Rattle.conf_session.specs.{Requests.MeansRequest, Said.said_of}
use Rattle.conf_session.proofs.reply.answer_any.Goals as goal

pub returns-in_err-said : goal.returns-in_err-said
returns-in_err-said g c =
    let d = g.D.Disk in
    let none = handles-none d.model c.args.store.now (Asks c.args.piece.now) in
    let p = err_from_is_err_and c.from_residual.result c.from_residual.ensures.1 in
    rw (p.1, p.2) none

pub returns : goal.returns
returns g c =
    let d = g.D.Disk in
    let said = said_of c.in_ok-said.said in
    handles-retold d.model c.args.store.now c.answer_said.new.store (MeansRequest said) (Asks c.args.piece.now)
    (λ request is. (said, c.in_ok-said.ensures, is))
    c.answer_said.result c.answer_said.ensures
