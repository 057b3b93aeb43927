use Rattle.std.proofs.Common.{◌++◌, string_bytes, encode_utf8_all, sym, ap, ◌∙◌}
use Rattle.yaml_writer.{proofs.{Prelude.spaces, ByteLemmas.byte_len-spaces, BudgetLemmas.spent}, specs.Budget.left_after}
use Rattle.yaml_writer.proofs.limited.LimitedTextSink.put_spaces.Goals as goal

pub returns-in_ok-put_spaces : goal.returns-in_ok-put_spaces
returns-in_ok-put_spaces c =
    let left = c.args.self.now.budget.left in (
      c.spend.ensures.left ∙ ap (left_after left) (sym (byte_len-spaces c.args.count)),
      λ room. c.in_ok-put_spaces.ensures
          ∙ ap (λ text. string_bytes text ++ encode_utf8_all (spaces c.args.count)) c.spend.ensures.text,
    )

pub returns-else-spend : goal.returns-else-spend
returns-else-spend c =
    let left = c.args.self.now.budget.left in (
      c.spend.ensures.left ∙ ap (left_after left) (sym (byte_len-spaces c.args.count)),
      λ room. absurd (room (spent c.spend.new.self.budget.left (sym c.if-spend.ensures.room))),
    )
