-- Bytes that are closed once are performed as a piece of a session, and others are no command.
use Rattle.std.{proofs.Common.{inl, inr, refl, sym, ◌∙◌, subst}, specs.Prelude.Ok}
use Rattle.conf_session.proofs.{Prelude.{false≢true, ClosesOnce}, WordLemmas.refusal-short, RequestLemmas.{handles-reading, handles-retold}}
use Rattle.conf_session.specs.{Requests.{Asks, bad}, Replies.Handles, Rounds.RoundAsks, declared.reply.Reply.TheVariants.Refused}
use Rattle.conf_session.specs.declared.words.Refusal.TheVariants.{BadCommand}
use Rattle.conf_session.proofs.rounds.submit_piece.Goals as goal

pub returns-then-not-closes_once : goal.returns-then-not-closes_once
returns-then-not-closes_once g c =
    let d = g.D.Disk in
    let store = c.args.store.now in
    handles-reading d.model store c.requires.means (RoundAsks c.args.piece.now.bytes.items)
    (λ image h is. g.met.D.Disk.only_now store.disk image h is) bad
    (inr (
      λ closes. false≢true (sym c.if-not-closes_once.true
          ∙ c.closes_once.ensures.1 (subst ClosesOnce (sym c.deref.ensures.value) closes)),
      refl,
    )) tt
    (Ok (Refused BadCommand)) (record { bytes = refl; accepted = refl; refused = refl; short = refusal-short BadCommand }) tt

pub returns : goal.returns
returns g c =
    let d = g.D.Disk in
    let old = c.args.store.now in
    let new = c.answer_piece.new.store in
    let bytes = c.args.piece.now.bytes.items in
    let closes : ClosesOnce bytes = subst ClosesOnce c.deref.ensures.value (c.closes_once.ensures.0 c.if-not-closes_once.false) in
    handles-retold d.model old new (Asks bytes) (RoundAsks bytes) (λ request asks. inl (closes, asks)) c.answer_piece.result
    (subst (λ b. Handles d.model old new (Asks b) c.answer_piece.result) c.deref-2.ensures.value c.answer_piece.ensures)
