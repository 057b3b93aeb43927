use Rattle.std.{proofs.Common.{codes, refl, subst}, specs.Str.chars}
use Rattle.{yaml_writer.proofs.Prelude.{on_ok_weaker, chars-literal}, comments_kept.specs.Weaving.Wrote}
use Rattle.comments_kept.proofs.ScalarParts.{long_key_woven}
use Rattle.comments_kept.proofs.scalars.weave_long_key.Goals as goal

pub returns : goal.returns
returns c =
    let ask = subst (λ cs. Wrote c.args.weaver.now cs c.put_text.new.self) (chars-literal (codes "? ") refl) c.in_ok-put_text.ensures in
    on_ok_weaker c.put_char.result
    (long_key_woven (chars c.args.key.now) c.args.indent c.args.weaver.now c.put_text.new.self c.write_key_text.new.sink
    c.end_line.new.self c.put_spaces.new.self c.put_char.new.self c.requires ask c.in_ok-write_key_text.ensures
    c.in_ok-end_line.ensures c.in_ok-put_spaces.ensures) c.put_char.ensures
