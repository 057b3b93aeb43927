-- What the store did with the command.
use Rattle.std.{proofs.Common.{◌≡◌, refl, ap, sym, ◌∙◌, subst, true, ◌+◌}, specs.Prelude.{min, Ok, Err}}
use Rattle.conf_session.proofs.Prelude.{false≢true, err_from_is_err_and, command_of, count_limit, RefusesCommand, outcome, room_for}
use Rattle.conf_session.proofs.{Prelude.{journal_length, StoreView}, RequestLemmas.{longest-of, count-after, accepted-reply, refused-reply}}
use Rattle.conf_session.proofs.RequestLemmas.{refused-outcome, did-refused, command-performed, command-refused, did-asked, handles-none}
use Rattle.conf_session.{proofs.RefusalLemmas.ended-by-device, specs.{Requests.changing, Answers.longest, Replies.{Did, Performs}}}
use Rattle.conf_session.specs.Runs.{stored_of}
use Rattle.conf_session.proofs.reply.change.Goals as goal

pub returns-in_err-answer : goal.returns-in_err-answer
returns-in_err-answer g c =
    let d = g.D.Disk in
    let none = handles-none d.model c.args.store.now (λ request. request ≡ changing (command_of c.args.command)) in
    let p = err_from_is_err_and c.from_residual.result c.from_residual.ensures.1 in
    rw (p.1, p.2) none

pub returns-in-Ok : goal.returns-in-Ok
returns-in-Ok g c =
    let d = g.D.Disk in
    let old = c.args.store.now in
    let new = c.submit.new.self in
    let command = command_of c.args.command in
    let ok = c.in-Ok.ensures.ok.0 in
    let here : outcome (longest (stored_of old)) old.state command ≡ Ok new.state =
    ap (λ n. outcome n old.state command) (longest-of old) ∙ ok.step in
    let next : c.saturating_add-next.result ≡ min (old.state.count + 1) count_limit = c.saturating_add-next.ensures
    ∙ ap (λ n. min (n + 1) count_limit) c.count.ensures.count in
    let same = count-after old.state new.state command
    (room_for (journal_length old) old.state command) c.saturating_add-next.result ok.step ok.count next in
    record {
      did = λ off. (
        changing command,
        refl,
        (
          accepted-reply (stored_of old) c.count.ensures.limits new.state command c.in_ok-answer.answer
              c.saturating_add-next.result here same c.in_ok-answer.ensures,
          ok.reopen,
          command-performed d.model old new command ok.step (λ on. ok) (λ h on. c.in-Ok.ensures.reads h off)
              (λ h on. c.in-Ok.ensures.stages h off) (λ h. c.in-Ok.ensures.any_moment h off)
              (λ h on. c.in-Ok.ensures.waits h off),
        ),
      );
      failures = record { cause = λ e. absurd (cc e); risen = c.submit.ensures.risen };
    }

pub returns-in-Err : goal.returns-in-Err
returns-in-Err g c =
    let d = g.D.Disk in
    let old = c.args.store.now in
    let new = c.submit.new.self in
    let command = command_of c.args.command in
    let f = c.in-Err.fault in
    record {
      did = λ off. did-asked d.model old new (λ request. request ≡ changing command) (changing command) refl c.refused.result
          (subst (Did d.model old new (changing command)) (sym c.refused.ensures)
          (did-refused d.model old new (changing command) f (λ e. false≢true (sym off ∙ c.submit.ensures.reopen.0 (c.in-Err.is ∙ ap Err e)))
          (λ e.
          let broken : new.reopen ≡ true = c.in-Err.ensures.device (ap Err e) in
          let done : outcome (journal_length old) old.state command ≡ Ok new.state =
          subst (RefusesCommand old command new) e c.in-Err.ensures.refused in (
            broken,
            command-performed d.model old new command done (λ on. absurd (cc (on, broken)))
                (λ h on. absurd (cc (on, broken))) (λ h on. absurd (cc (on, broken))) (λ h. c.in-Err.ensures.any_moment h off)
                (λ h on. absurd (cc (on, broken))),
          ))
          c.in-Err.ensures.unchanged
          (λ reason other is.
          let refused = refused-outcome old new command f reason is c.in-Err.ensures.refused in
          let here : outcome (longest (stored_of old)) old.state command ≡ Err f =
          ap (λ n. outcome n old.state command) (longest-of old) ∙ refused in
          let same = c.in-Err.ensures.unchanged other in (
            refused-reply (stored_of old) c.count.ensures.limits command f reason here is,
            ap (λ (s : StoreView g.row.D.Denot). s.reopen) same ∙ off,
            subst (λ s. Performs d.model old s (changing command)) (sym same)
                (command-refused d.model old off command f refused
                (λ image h is. g.met.D.Disk.only_now old.disk image h is) c.requires.means),
          ))));
      failures = record {
        cause = λ e. c.submit.ensures.cause
            (c.in-Err.is ∙ ap Err (ended-by-device f (sym c.refused.ensures ∙ e)));
        risen = c.submit.ensures.risen;
      };
    }
