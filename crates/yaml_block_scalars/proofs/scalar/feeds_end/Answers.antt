use Rattle.std.proofs.Common.{◌<◌, arith, length}
use Rattle.yaml_block_scalars.proofs.Feeds.{feeds_all, feeds_cut, feeds_more, feeds_none, feeds_stopped}
use Rattle.yaml_block_scalars.proofs.scalar.feeds_end.Goals as goal

pub loop-end-init : goal.loop-end-init
loop-end-init c = feeds_none c.args.text.now c.args.at c.args.count c.requires

pub returns-then-end-bytes-clause-none : goal.returns-then-end-bytes-clause-none
returns-then-end-bytes-clause-none c = feeds_cut c.args.text.now c.args.at c.args.count c.loop-end.end
    c.loop-end.invariant (omega arith) (omega (arith, c.as_bytes-bytes.ensures.len))

pub returns-then-bytes-end-ne10-clause-none : goal.returns-then-bytes-end-ne10-clause-none
returns-then-bytes-end-ne10-clause-none c =
    let within = c.loop-end.invariant.boundary.0 in
    let l : c.loop-end.end < length c.args.text.now = omega (arith, c.as_bytes-bytes.ensures.len) in
    feeds_stopped c.args.text.now c.args.at c.args.count c.loop-end.end c.utf8.text c.loop-end.invariant
    (omega arith) l (rw c.as_bytes-bytes.ensures.value at c.if-bytes-end-ne10.true)

pub loop-end-preserved : goal.loop-end-preserved
loop-end-preserved c =
    let within = c.loop-end.invariant.boundary.0 in
    let l : c.loop-end.end < length c.args.text.now = omega (arith, c.as_bytes-bytes.ensures.len) in
    feeds_more c.args.text.now c.args.at c.args.count c.loop-end.end c.utf8.text c.loop-end.invariant (omega arith) l
    (rw c.as_bytes-bytes.ensures.value at c.if-bytes-end-ne10.false)

pub returns-clause-found : goal.returns-clause-found
returns-clause-found c = feeds_all c.args.text.now c.args.at c.args.count c.loop-end.end c.utf8.text c.requires
    c.loop-end.invariant (omega arith)
