use Rattle.std.proofs.Common.{arith}
use Rattle.yaml_writer.proofs.{Prelude.chars, ByteLemmas.byte_len-chars, SizeBounds.key_bytes_bound, SizeSums.key_bytes}
use Rattle.yaml_writer.proofs.size.key_text_length.Goals as goal

pub returns-clause-length : goal.returns-clause-length
returns-clause-length c =
    let key = chars c.args.key.now in
    let own = byte_len-chars c.args.key.now c.utf8.key in
    omega (arith, c.total.ensures, c.new-bytes.ensures, c.in-Ok.ensures, key_bytes key, key_bytes_bound key, own)

pub returns-clause-small : goal.returns-clause-small
returns-clause-small c =
    let key = chars c.args.key.now in
    let own = byte_len-chars c.args.key.now c.utf8.key in
    omega (arith, c.total.ensures, c.new-bytes.ensures, c.in-Ok.ensures, key_bytes key, key_bytes_bound key, own)
