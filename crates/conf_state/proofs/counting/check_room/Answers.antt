use Rattle.std.proofs.Common.{◌≡◌, ◌+◌, min, ap₂, sym, ◌∙◌, arith}
use Rattle.conf_state.{specs.BaseTexts.framed_length, proofs.CountLemmas.{next_state-full, next_state-record, next_state-long}}
use Rattle.conf_state.proofs.CountLemmas.{next_state-last, next_state-new}
use Rattle.conf_state.proofs.counting.check_room.Goals as goal

pub returns-then-base_length-gt-BASE_LIMIT-clause-refused :
    goal.returns-then-base_length-gt-BASE_LIMIT-clause-refused
returns-then-base_length-gt-BASE_LIMIT-clause-refused c = λ s configs same is.
    let count : c.from.result ≡ s.count = c.from.ensures ∙ sym same in
    next_state-full s c.args.room configs (omega arith) c.base_length.result
    (c.base_length.ensures ∙ ap₂ (λ n l. min (framed_length (n + 1) l) 18446744073709551615) count is)
    c.if-base_length-gt-BASE_LIMIT.true

pub returns-in-LongRecord-clause-refused : goal.returns-in-LongRecord-clause-refused
returns-in-LongRecord-clause-refused c = λ s configs same is.
    let count : c.from.result ≡ s.count = c.from.ensures ∙ sym same in
    next_state-record s c.args.room configs (omega arith) c.base_length.result
    (c.base_length.ensures ∙ ap₂ (λ n l. min (framed_length (n + 1) l) 18446744073709551615) count is)
    c.if-base_length-gt-BASE_LIMIT.false c.in-LongRecord.is

pub returns-in-Missing-clause-refused : goal.returns-in-Missing-clause-refused
returns-in-Missing-clause-refused c = λ s configs same is.
    let count : c.from.result ≡ s.count = c.from.ensures ∙ sym same in
    next_state-long s c.args.room configs (omega arith) c.base_length.result
    (c.base_length.ensures ∙ ap₂ (λ n l. min (framed_length (n + 1) l) 18446744073709551615) count is)
    c.if-base_length-gt-BASE_LIMIT.false c.in-Missing.is

pub returns-in-Enough-clause-refused : goal.returns-in-Enough-clause-refused
returns-in-Enough-clause-refused c = λ s configs same is.
    let count : c.from.result ≡ s.count = c.from.ensures ∙ sym same in
    next_state-last s c.args.room configs (omega arith) c.base_length.result
    (c.base_length.ensures ∙ ap₂ (λ n l. min (framed_length (n + 1) l) 18446744073709551615) count is)
    c.if-base_length-gt-BASE_LIMIT.false c.in-Enough.is (same ∙ c.if-count-eq18446744073709551615.true)

pub returns-in-Enough-2-clause-ok : goal.returns-in-Enough-2-clause-ok
returns-in-Enough-2-clause-ok c = λ s configs same is.
    let count : c.from.result ≡ s.count = c.from.ensures ∙ sym same in
    next_state-new s c.args.room configs (omega arith) c.base_length.result
    (c.base_length.ensures ∙ ap₂ (λ n l. min (framed_length (n + 1) l) 18446744073709551615) count is)
    c.if-base_length-gt-BASE_LIMIT.false c.in-Enough-2.is (omega (arith, same))
