use Rattle.std.proofs.Common.{◌<◌, ◌+◌, arith, length}
use Rattle.yaml_scan.proofs.ByteBreaks.{break_cr_end, break_cr_lf, break_cr_other, break_lf, break_none, break_none_at_end}
use Rattle.yaml_scan.proofs.breaks.break_end.Goals as goal

pub returns-then-at-bytes-clause-none : goal.returns-then-at-bytes-clause-none
returns-then-at-bytes-clause-none c = break_none_at_end c.args.text.now c.args.at (omega (arith, c.as_bytes-bytes.ensures.len))

pub returns-then-bytes-at-eq10-clause-found : goal.returns-then-bytes-at-eq10-clause-found
returns-then-bytes-at-eq10-clause-found c =
    let within = c.requires.0 in
    let l : c.args.at < length c.args.text.now = omega (arith, c.as_bytes-bytes.ensures.len) in
    break_lf c.args.text.now c.args.at c.utf8.text l (rw c.as_bytes-bytes.ensures.value at c.if-bytes-at-eq10.true)

pub returns-then-bytes-at-ne13-clause-none : goal.returns-then-bytes-at-ne13-clause-none
returns-then-bytes-at-ne13-clause-none c =
    let within = c.requires.0 in
    let l : c.args.at < length c.args.text.now = omega (arith, c.as_bytes-bytes.ensures.len) in
    break_none c.args.text.now c.args.at c.utf8.text c.requires l
    (rw c.as_bytes-bytes.ensures.value at c.if-bytes-at-eq10.false)
    (rw c.as_bytes-bytes.ensures.value at c.if-bytes-at-ne13.true)

pub returns-then-next-bytes-clause-found : goal.returns-then-next-bytes-clause-found
returns-then-next-bytes-clause-found c =
    let within = c.requires.0 in
    let l : c.args.at < length c.args.text.now = omega (arith, c.as_bytes-bytes.ensures.len) in
    break_cr_end c.args.text.now c.args.at c.utf8.text l
    (rw c.as_bytes-bytes.ensures.value at c.if-bytes-at-ne13.false) (omega (arith, c.as_bytes-bytes.ensures.len))

pub returns-then-bytes-next-ne10-clause-found : goal.returns-then-bytes-next-ne10-clause-found
returns-then-bytes-next-ne10-clause-found c =
    let within = c.requires.0 in
    let l : c.args.at + 1 < length c.args.text.now = omega (arith, c.as_bytes-bytes.ensures.len) in
    break_cr_other c.args.text.now c.args.at c.utf8.text l
    (rw c.as_bytes-bytes.ensures.value at c.if-bytes-at-ne13.false)
    (rw c.as_bytes-bytes.ensures.value at c.if-bytes-next-ne10.true)

pub returns-clause-found : goal.returns-clause-found
returns-clause-found c =
    let within = c.requires.0 in
    let l : c.args.at + 1 < length c.args.text.now = omega (arith, c.as_bytes-bytes.ensures.len) in
    break_cr_lf c.args.text.now c.args.at c.utf8.text l
    (rw c.as_bytes-bytes.ensures.value at c.if-bytes-at-ne13.false)
    (rw c.as_bytes-bytes.ensures.value at c.if-bytes-next-ne10.false)
