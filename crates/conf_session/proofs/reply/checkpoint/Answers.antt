-- What the store did at the checkpoint.
use Rattle.std.{proofs.Common.{rules, ◌≡◌, sym, ap, ◌∙◌, refl}, specs.Prelude.{decimal, codes, Err}}
use Rattle.conf_session.proofs.{Prelude.{false≢true, err_from_is_err_and, text, framed_text_bytes}, LengthLemmas.answer-short}
use Rattle.conf_session.{proofs.RequestLemmas.{checkpointed, handles-none}, specs.{Answers.one, Requests.checkpointing, Runs.stored_of}}
use Rattle.conf_session.proofs.reply.checkpoint.Goals as goal

pub returns-in_err-answer : goal.returns-in_err-answer
returns-in_err-answer g c =
    let d = g.D.Disk in
    let none = handles-none d.model c.args.store.now (λ request. request ≡ checkpointing) in
    let p = err_from_is_err_and c.from_residual.result c.from_residual.ensures.1 in
    rw (p.1, p.2) none

pub returns-in-Ok : goal.returns-in-Ok
returns-in-Ok g c =
    let d = g.D.Disk in
    let old = c.args.store.now in
    let new = c.checkpoint.new.self in
    let ok = c.in-Ok.ensures.ok in
    record {
      did = λ off. (
        checkpointing,
        refl,
        (
          record {
            bytes = c.in_ok-answer.ensures ∙ ap (λ n. framed_text_bytes (one (codes "ok") (text (decimal n)))) c.count.ensures.count;
            accepted = refl;
            refused = refl;
            short = answer-short (stored_of old) checkpointing c.count.ensures.limits;
          },
          ok.0,
          checkpointed d.model old new c.checkpoint.ensures.state (λ on. (ok.1, ok.2, ok.3))
              (λ h on. c.in-Ok.ensures.reads h) (λ h. c.in-Ok.ensures.any_moment h off) (λ h on. c.in-Ok.ensures.flushed h),
        ),
      );
      failures = record { cause = λ e. absurd (cc e); risen = c.checkpoint.ensures.risen };
    }

pub returns-in-Err-Device : goal.returns-in-Err-Device
returns-in-Err-Device g c =
    let d = g.D.Disk in
    let old = c.args.store.now in
    let new = c.checkpoint.new.self in
    let broken = c.in-Err-Device.ensures.device (ap Err c.in-Err-Device.field-0-is) in
    record {
      did = λ off. (
        checkpointing,
        refl,
        (
          broken,
          checkpointed d.model old new c.checkpoint.ensures.state (λ on. absurd (cc (on, broken)))
              (λ h on. absurd (cc (on, broken))) (λ h. c.in-Err-Device.ensures.any_moment h off)
              (λ h on. absurd (cc (on, broken))),
        ),
      );
      failures = record {
        cause = λ e. c.checkpoint.ensures.cause
            (c.in-Err-Device.is ∙ ap Err c.in-Err-Device.field-0-is);
        risen = c.checkpoint.ensures.risen;
      };
    }

pub returns-in-Err-Reopen : goal.returns-in-Err-Reopen
returns-in-Err-Reopen g c =
    let d = g.D.Disk in
    let same = c.in-Err-Reopen.ensures.unchanged (λ e. cc (e, c.in-Err-Reopen.field-0-is)) in
    record {
      did = λ off. absurd (false≢true (sym off ∙ c.checkpoint.ensures.reopen.0 (c.in-Err-Reopen.is ∙ ap Err c.in-Err-Reopen.field-0-is)));
      failures = record { cause = λ e. absurd (cc e); risen = c.checkpoint.ensures.risen };
    }

pub returns : goal.returns
returns g c =
    let d = g.D.Disk in
    let same : c.checkpoint.new.self ≡ c.args.store.now = search rules in
    record {
      did = λ off. same;
      failures = record { cause = λ e. absurd (cc e); risen = c.checkpoint.ensures.risen };
    }
