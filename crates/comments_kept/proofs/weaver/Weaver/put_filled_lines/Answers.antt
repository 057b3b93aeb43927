use Rattle.{yaml_writer.proofs.Prelude.on_ok_weaker, comments_kept.proofs.LineEnds.skipped_lines}
use Rattle.comments_kept.proofs.weaver.Weaver.put_filled_lines.Goals as goal

pub returns : goal.returns
returns c = on_ok_weaker c.put_lines.result
    (λ lines. skipped_lines c.args.most c.args.self.now c.skip_empty_lines.new.self c.put_lines.new.self
    c.skip_empty_lines.ensures lines) c.put_lines.ensures
