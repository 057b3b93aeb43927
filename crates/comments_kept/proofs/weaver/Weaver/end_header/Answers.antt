use Rattle.std.{proofs.Common.arith, specs.Str.chars}
use Rattle.{yaml_writer.proofs.Prelude.on_ok_weaker, comments_kept.proofs.LineEnds.{end_behind, end_alone}}
use Rattle.comments_kept.proofs.weaver.Weaver.end_header.Goals as goal

pub returns-in-None : goal.returns-in-None
returns-in-None c = on_ok_weaker c.put_char.result
    (λ feed. end_alone c.args.self.now c.put_char.new.self feed.0 feed.1 feed.2 (omega (arith, c.in-Some.ensures, feed.3))
    c.in-None.ensures) c.put_char.ensures

pub returns-in-Some-comment : goal.returns-in-Some-comment
returns-in-Some-comment c = on_ok_weaker c.put_behind.result
    (λ wrote. end_behind c.args.self.now c.put_behind.new.self (chars c.in-Some-comment.text.now) c.in-Some-comment.ensures
    wrote.0 wrote.1 wrote.2 (omega (arith, c.in-Some.ensures, wrote.3))) c.put_behind.ensures
