use Rattle.std.{proofs.Common.{rules, ◌≡◌, inl, inr, ⊎_elim, ◌+◌, min, max, ◌∙◌, ap}, specs.Prelude.string_bytes}
use Rattle.conf_store.proofs.{Prelude.{command_of, count_limit, record_bytes}, RefusalLemmas.of-state, StoreLemmas.accepted}
use Rattle.conf_store.{proofs.StoreLemmas.{refused-outcome, room-next}, specs.{Stagings.staged_of, Calls.next_number, Staged.staged_length}}
use Rattle.conf_store.proofs.accepting.accept.Goals as goal

pub returns-in-Ok-clause-ok : goal.returns-in-Ok-clause-ok
returns-in-Ok-clause-ok c =
    let s = c.args.state.now in
    let command = command_of c.args.command in
    let longest = max c.args.size (staged_length (staged_of c.args.state.now c.args.staging.now)) in
    let number : c.saturating_add-number.result ≡ next_number s = c.saturating_add-number.ensures
    ∙ ap (λ n. min (n + 1) count_limit) c.count.ensures.count in
    let most : c.max-longest.result ≡ longest = search (rules, c.max-longest.ensures, c.len.ensures) in
    let measured = c.in_ok-record.ensures in
    let room = room-next longest s command c.in_ok-record.room c.saturating_add-number.result c.max-longest.result
    measured.measured number most in (
      accepted c.steps_are_counted_or_refused.ensures.room c.steps_are_counted_or_refused.ensures.count
          c.documents_are_read.ensures.records c.documents_close.ensures.records s c.step.new.state command c.in_ok-record.room
          (string_bytes c.in_ok-record.record) longest c.count.ensures.limits c.count-in-Ok.ensures.limits
          (λ enough. (let made = measured.made enough in
          (made.0, made.1 ∙ ap (record_bytes command) number))) c.in-Ok.ensures.ok room,
      c.count-in-Ok.ensures.count,
    )

pub returns-in-Err-clause-refused : goal.returns-in-Err-clause-refused
returns-in-Err-clause-refused c =
    let s = c.args.state.now in
    let command = command_of c.args.command in
    let longest = max c.args.size (staged_length (staged_of c.args.state.now c.args.staging.now)) in
    let number : c.saturating_add-number.result ≡ next_number s = c.saturating_add-number.ensures
    ∙ ap (λ n. min (n + 1) count_limit) c.count.ensures.count in
    let most : c.max-longest.result ≡ longest = search (rules, c.max-longest.ensures, c.len.ensures) in
    let room = room-next longest s command c.in_ok-record.room c.saturating_add-number.result c.max-longest.result
    c.in_ok-record.ensures.measured number most in
    ⊎_elim (λ memory. inl memory) (λ e. inr (refused-outcome longest s command c.in_ok-record.room c.in-Err.fault room
    e)) c.in-Err.ensures.refused

pub returns-in-Err-clause-of_state : goal.returns-in-Err-clause-of_state
returns-in-Err-clause-of_state c = of-state c.steps_are_counted_or_refused.ensures.refused c.args.state.now
    (command_of c.args.command) _ c.in-Err.fault c.in-Err.ensures.refused
