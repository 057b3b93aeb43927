use Rattle.std.proofs.Common.{◌<◌, arith, length}
use Rattle.yaml_block_scalars.proofs.FirstLines.{mark_at_end, mark_keep, mark_missing, mark_strip}
use Rattle.yaml_block_scalars.proofs.first_line.chomping_at.Goals as goal

pub returns-then-at-bytes : goal.returns-then-at-bytes
returns-then-at-bytes c = mark_at_end c.args.text.now c.args.at c.requires (omega (arith, c.as_bytes-bytes.ensures.len))

pub returns-then-bytes-at-eq45 : goal.returns-then-bytes-at-eq45
returns-then-bytes-at-eq45 c =
    let within = c.requires.0 in
    let l : c.args.at < length c.args.text.now = omega (arith, c.as_bytes-bytes.ensures.len, c.if-at-bytes.false) in
    mark_strip c.args.text.now c.args.at c.utf8.text l (rw c.as_bytes-bytes.ensures.value at c.if-bytes-at-eq45.true)

pub returns-then-bytes-at-eq43 : goal.returns-then-bytes-at-eq43
returns-then-bytes-at-eq43 c =
    let within = c.requires.0 in
    let l : c.args.at < length c.args.text.now = omega (arith, c.as_bytes-bytes.ensures.len, c.if-at-bytes.false) in
    mark_keep c.args.text.now c.args.at c.utf8.text l (rw c.as_bytes-bytes.ensures.value at c.if-bytes-at-eq43.true)

pub returns : goal.returns
returns c =
    let within = c.requires.0 in
    let l : c.args.at < length c.args.text.now = omega (arith, c.as_bytes-bytes.ensures.len, c.if-at-bytes.false) in
    mark_missing c.args.text.now c.args.at c.utf8.text c.requires l
    (rw c.as_bytes-bytes.ensures.value at c.if-bytes-at-eq45.false)
    (rw c.as_bytes-bytes.ensures.value at c.if-bytes-at-eq43.false)
