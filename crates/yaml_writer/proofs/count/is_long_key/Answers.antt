use Rattle.std.proofs.Common.{arith}
use Rattle.yaml_writer.proofs.{Prelude.chars, ByteLemmas.byte_len-chars, LengthLemmas.length-byte_len, SizeBounds.short_key}
use Rattle.yaml_writer.proofs.count.is_long_key.Goals as goal

pub returns-then-key-le-SHORT_KEY : goal.returns-then-key-le-SHORT_KEY
returns-then-key-le-SHORT_KEY c =
    let key = chars c.args.key.now in
    short_key key (omega (arith, byte_len-chars c.args.key.now c.utf8.key, length-byte_len key))
