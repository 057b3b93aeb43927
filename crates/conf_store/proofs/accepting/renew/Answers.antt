use Rattle.std.{proofs.Common.{rules, ◌≡◌, inl, inr, ⊎_elim, ◌+◌, ◌++◌, min, length, ◌∙◌, ap, refl}, specs.Prelude.string_bytes}
use Rattle.conf_store.proofs.{Prelude.{command_of, count_limit, record_bytes}, RefusalLemmas.of-state, StoreLemmas.renewed}
use Rattle.{conf_store.{proofs.StoreLemmas.{refused-outcome, room-next}, specs.Calls.next_number}, conf_record.specs.Formats.base_in}
use Rattle.conf_record.specs.declared.format.Format.TheVariants.{Third}
use Rattle.conf_store.proofs.accepting.renew.Goals as goal

pub returns-in-Ok-clause-ok : goal.returns-in-Ok-clause-ok
returns-in-Ok-clause-ok c =
    let s = c.args.state.now in
    let command = command_of c.args.command in
    let number : c.saturating_add-number.result ≡ next_number s = c.saturating_add-number.ensures
    ∙ ap (λ n. min (n + 1) count_limit) c.count.ensures.count in
    let measured = c.in_ok-record.ensures in
    let room = room-next c.args.longest s command c.in_ok-record.room c.saturating_add-number.result c.args.longest
    measured.measured number refl in
    let base = c.in_ok-text.ensures.bytes in
    let long : c.len-base.result ≡ length (string_bytes c.in_ok-text.text) = search rules in
    let whole : string_bytes c.push_str.new.self ≡ string_bytes c.in_ok-text.text ++ string_bytes c.in_ok-record.record = search rules in (
      renewed c.steps_are_counted_or_refused.ensures.room c.steps_are_counted_or_refused.ensures.count
          c.documents_are_read.ensures.records c.documents_close.ensures.records c.documents_are_read.ensures.fit s c.step.new.state command
          c.in_ok-record.room (string_bytes c.in_ok-record.record) (string_bytes c.push_str.new.self) c.args.longest c.len-base.result
          c.requires.about c.count.ensures.limits c.count-in-Ok.ensures.limits
          (λ enough. (let made = measured.made enough in (made.0, made.1 ∙ ap (record_bytes command) number))) c.in-Ok.ensures.ok room
          (whole ∙ ap (λ bs. bs ++ string_bytes c.in_ok-record.record) base) (long ∙ ap length base),
      c.count-in-Ok.ensures.count,
    )

pub returns-clause-refused : goal.returns-clause-refused
returns-clause-refused c =
    let s = c.args.state.now in
    let command = command_of c.args.command in
    let number : c.saturating_add-number.result ≡ next_number s = c.saturating_add-number.ensures
    ∙ ap (λ n. min (n + 1) count_limit) c.count.ensures.count in
    let room = room-next c.args.longest s command c.in_ok-record.room c.saturating_add-number.result c.args.longest
    c.in_ok-record.ensures.measured number refl in
    ⊎_elim (λ memory. inl memory) (λ e. inr (refused-outcome c.args.longest s command c.in_ok-record.room c.in-Err.fault room
    e)) c.in-Err.ensures.refused

pub returns-clause-of_state : goal.returns-clause-of_state
returns-clause-of_state c = of-state c.steps_are_counted_or_refused.ensures.refused c.args.state.now
    (command_of c.args.command) _ c.in-Err.fault c.in-Err.ensures.refused
