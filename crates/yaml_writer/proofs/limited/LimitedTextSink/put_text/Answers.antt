use Rattle.std.proofs.Common.{◌++◌, string_bytes, encode_utf8_all, sym, ap, ◌∙◌}
use Rattle.yaml_writer.{proofs.{Prelude.chars, ByteLemmas.byte_len-chars, BudgetLemmas.spent}, specs.Budget.left_after}
use Rattle.yaml_writer.proofs.limited.LimitedTextSink.put_text.Goals as goal

pub returns-in_ok-put_text : goal.returns-in_ok-put_text
returns-in_ok-put_text c =
    let left = c.args.self.now.budget.left in (
      c.spend.ensures.left ∙ ap (left_after left) (sym (byte_len-chars c.args.text.now c.utf8.text)),
      λ room. c.in_ok-put_text.ensures
          ∙ ap (λ text. string_bytes text ++ encode_utf8_all (chars c.args.text.now)) c.spend.ensures.text,
    )

pub returns-else-spend : goal.returns-else-spend
returns-else-spend c =
    let left = c.args.self.now.budget.left in (
      c.spend.ensures.left ∙ ap (left_after left) (sym (byte_len-chars c.args.text.now c.utf8.text)),
      λ room. absurd (room (spent c.spend.new.self.budget.left (sym c.if-spend.ensures.room))),
    )
