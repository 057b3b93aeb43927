use Rattle.std.specs.Str.{chars}
use Rattle.{yaml_writer.proofs.Prelude.on_ok_weaker, comments_kept.proofs.LineEnds.comment_wrote}
use Rattle.comments_kept.proofs.weaver.Weaver.put_comment.Goals as goal

pub returns : goal.returns
returns c = on_ok_weaker c.put_char-2.result
    (λ feed. comment_wrote c.args.indent (chars c.args.text.now) c.args.self.now c.put_spaces.new.self c.put_char.new.self
    c.put_text.new.self c.put_char-2.new.self c.in_ok-put_spaces.ensures c.in_ok-put_char.ensures c.in_ok-put_text.ensures feed)
    c.put_char-2.ensures
