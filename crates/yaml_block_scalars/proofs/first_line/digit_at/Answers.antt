use Rattle.std.proofs.Common.{◌<◌, ap, arith, get_or, length, sym}
use Rattle.yaml_block_scalars.proofs.FirstLines.{digit_above, digit_at_end, digit_below, digit_there}
use Rattle.yaml_block_scalars.proofs.first_line.digit_at.Goals.{then-byte-lt49-via-then-byte-lt49}
use Rattle.yaml_block_scalars.proofs.first_line.digit_at.Goals.{then-byte-lt49-via-else-byte-lt49+then-byte-gt57}
use Rattle.yaml_block_scalars.proofs.first_line.digit_at.Goals as goal

pub returns-then-at-bytes : goal.returns-then-at-bytes
returns-then-at-bytes c = digit_at_end c.args.text.now c.args.at c.requires (omega (arith, c.as_bytes-bytes.ensures.len))

pub returns-then-byte-lt49 : goal.returns-then-byte-lt49
returns-then-byte-lt49 c =
    let within = c.requires.0 in
    let l : c.args.at < length c.args.text.now = omega (arith, c.as_bytes-bytes.ensures.len, c.if-at-bytes.false) in
    elim c.then-byte-lt49.branch [
      | then-byte-lt49-via-then-byte-lt49 w ↦ digit_below c.args.text.now c.args.at c.utf8.text c.requires l
          (rw c.as_bytes-bytes.ensures.value at w.if-byte-lt49.true)
      | then-byte-lt49-via-else-byte-lt49+then-byte-gt57 w ↦ digit_above c.args.text.now c.args.at c.utf8.text
          c.requires l (rw c.as_bytes-bytes.ensures.value at w.if-byte-gt57.true)
    ]

pub returns : goal.returns
returns c =
    let within = c.requires.0 in
    let l : c.args.at < length c.args.text.now = omega (arith, c.as_bytes-bytes.ensures.len, c.if-at-bytes.false) in
    digit_there c.args.text.now c.args.at (get_or c.as_bytes-bytes.result.now c.args.at 0) c.utf8.text l
    (ap (λ x. get_or x c.args.at 0) (sym c.as_bytes-bytes.ensures.value)) c.if-byte-lt49.false c.if-byte-gt57.false
