-- A piece is performed, and its answer is the last one.
use Rattle.conf_session.{specs.Rounds.answer_bytes, proofs.RoundLemmas.answered}
use Rattle.conf_session.proofs.rounds.take_piece.Goals as goal

pub returns-in-Ok-push_answer-clause-ok : goal.returns-in-Ok-push_answer-clause-ok
returns-in-Ok-push_answer-clause-ok g c off =
    let d = g.D.Disk in
    answered d.model c.args.store.now c.submit_piece.new.store c.args.piece.now.bytes.items c.in-Ok.reply
    (answer_bytes c.args.answers.now.items) (answer_bytes c.push_answer.new.answers.items)
    (c.in-Ok.ensures.did off) c.in-Ok-push_answer.ensures
