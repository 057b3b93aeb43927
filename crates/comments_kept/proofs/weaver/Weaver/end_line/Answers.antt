use Rattle.{yaml_writer.proofs.Prelude.on_ok_weaker, comments_kept.proofs.LineEnds.line_ended}
use Rattle.comments_kept.proofs.weaver.Weaver.end_line.Goals as goal

pub returns : goal.returns
returns c = on_ok_weaker c.put_lines.result
    (λ lines. line_ended c.args.self.now c.end_header.new.self c.put_lines.new.self c.in_ok-end_header.ensures lines)
    c.put_lines.ensures
