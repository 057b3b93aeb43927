use Rattle.std.proofs.Common.{◌≡◌, IfSome, subst, sym}
use Rattle.conf_session.proofs.{Prelude.{err_from_is_err_and, command_of}, RequestLemmas.{handles-none, handles-retold}}
use Rattle.conf_session.specs.Requests.{Asks, changing}
use Rattle.conf_session.proofs.reply.answer_piece.Goals as goal

pub returns-in_err-command : goal.returns-in_err-command
returns-in_err-command g c =
    let d = g.D.Disk in
    let none = handles-none d.model c.args.store.now (Asks c.args.piece.now) in
    let p = err_from_is_err_and c.from_residual.result c.from_residual.ensures.1 in
    rw (p.1, p.2) none

pub returns-in-Some : goal.returns-in-Some
returns-in-Some g c =
    let d = g.D.Disk in
    let command = command_of c.in-Some.command in
    let asks : Asks c.args.piece.now (changing command) =
    subst (λ found. IfSome found (λ command. Asks c.args.piece.now (changing (command_of command)))) c.in-Some.is c.in_ok-command.ensures in
    handles-retold d.model c.args.store.now c.change.new.store (λ request. request ≡ changing command) (Asks c.args.piece.now)
    (λ request is. subst (Asks c.args.piece.now) (sym is) asks) c.change.result c.change.ensures
