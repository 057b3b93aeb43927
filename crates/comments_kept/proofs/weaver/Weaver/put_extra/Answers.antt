use Rattle.std.proofs.Common.{sym, subst}
use Rattle.{yaml_writer.proofs.Prelude.on_ok_weaker, comments_kept.specs.Weaving.WroteExtra}
use Rattle.comments_kept.proofs.weaver.Weaver.put_extra.Goals as goal

pub returns-in-EmptyLine : goal.returns-in-EmptyLine
returns-in-EmptyLine c = on_ok_weaker c.put_char.result
    (λ w. subst (λ k. WroteExtra k c.args.indent c.args.self.now c.put_char.new.self) (sym c.in-EmptyLine.is) w) c.put_char.ensures

pub returns-in-Comment : goal.returns-in-Comment
returns-in-Comment c = on_ok_weaker c.put_comment.result
    (λ w. subst (λ k. WroteExtra k c.args.indent c.args.self.now c.put_comment.new.self) (sym c.in-Comment.is) w)
    c.put_comment.ensures
