use Rattle.std.proofs.Common.{subst}
use Rattle.{yaml_writer.proofs.Prelude.on_ok_weaker, comments_kept.specs.Weaving.Wrote}
use Rattle.comments_kept.proofs.scalars.weave_literal.Goals as goal

pub returns : goal.returns
returns c =
    let header = subst (λ cs. Wrote c.args.weaver.now cs c.put_text.new.self) c.requires.header c.in_ok-put_text.ensures in
    on_ok_weaker c.write_literal_lines.result
    (λ body. record {
      b = c.put_text.new.self;
      c = c.end_header.new.self;
      header = header;
      ended = c.in_ok-end_header.ensures;
      body = body;
    }) c.write_literal_lines.ensures
