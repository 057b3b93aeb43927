use Rattle.std.proofs.Common.{sym, ap, ◌∙◌}
use Rattle.yaml_writer.{specs.Budget.left_after, proofs.ByteLemmas.byte_len-chars}
use Rattle.yaml_writer.proofs.count.ByteBudgetSink.put_text.Goals as goal

pub returns : goal.returns
returns c = c.spend.ensures ∙ ap (left_after c.args.self.now.left) (sym (byte_len-chars c.args.text.now c.utf8.text))
