use Rattle.std.{proofs.Common.sym, specs.Str.chars}
use Rattle.{yaml_writer.proofs.Prelude.on_ok_weaker, comments_kept.proofs.ScalarParts.key_woven}
use Rattle.comments_kept.proofs.scalars.weave_key.Goals as goal

pub returns : goal.returns
returns c = on_ok_weaker c.put_char.result
    (key_woven (chars c.args.key.now) c.args.indent c.args.weaver.now c.write_key_text.new.sink c.put_char.new.self
    (sym c.if-is_long_key.ensures) c.in_ok-write_key_text.ensures) c.put_char.ensures
