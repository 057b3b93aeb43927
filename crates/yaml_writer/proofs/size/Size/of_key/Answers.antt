use Rattle.std.proofs.Common.{if◌then◌else◌, ap, arith}
use Rattle.yaml_writer.proofs.{Prelude.chars, SizeLaws.sized, SizeSums.key_bytes}
use Rattle.yaml_writer.proofs.size.Size.of_key.Goals as goal

pub returns-then-is_long_key-clause-size : goal.returns-then-is_long_key-clause-size
returns-then-is_long_key-clause-size c =
    let lines = ap (λ long. if long then 1 else 0) c.if-is_long_key.ensures in
    sized (omega (arith, c.key_text_length-bytes.ensures.length, key_bytes (chars c.args.key.now), lines)) lines

pub returns-clause-size : goal.returns-clause-size
returns-clause-size c =
    let lines = ap (λ long. if long then 1 else 0) c.if-is_long_key.ensures in
    sized (omega (arith, c.key_text_length-bytes.ensures.length, key_bytes (chars c.args.key.now), lines)) lines
