use Rattle.std.proofs.Common.{if◌then◌else◌, ap, arith}
use Rattle.{yaml_styled.proofs.Prelude.{chars, byte_len-chars, short_key}, yaml_writer.proofs.LengthLemmas.length-byte_len}
use Rattle.yaml_styled.proofs.keys.key_line_count.Goals as goal

pub returns-then-key-le-SHORT_KEY : goal.returns-then-key-le-SHORT_KEY
returns-then-key-le-SHORT_KEY c =
    let key = chars c.args.key.now in
    let short = short_key key (omega (arith, byte_len-chars c.args.key.now c.utf8.key, length-byte_len key)) in
    ap (λ long. if long then 1 else 0) short
