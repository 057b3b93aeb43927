-- A break more is counted; where none is left, all are.
use Rattle.std.proofs.Common.{ap, arith}
use Rattle.yaml_style.proofs.{Prelude.{chars, IsCharBoundary-start}, LineLemmas.no_more_breaks, SplitLemmas.{is_split, break_len}}
use Rattle.yaml_style.specs.Lines.{breaks}
use Rattle.yaml_style.proofs.lines.break_count.Goals as goal

pub next_break-requires : goal.next_break-requires
next_break-requires c = IsCharBoundary-start c.loop-start.rest.now c.loop-start.invariant.utf8

pub loop-start-preserved : goal.loop-start-preserved
loop-start-preserved c =
    let split = is_split c.loop-start.rest.now c.in-Some.start c.in-Some.len c.loop-start.invariant.utf8 c.in-Some.ensures.line in
    let fewer = split.count in
    let left = ap (λ bytes. breaks (chars bytes)) c.range_from-rest.ensures.value in
    let some = break_len _ _ _ c.in-Some.ensures.line.break in
    record {
      utf8 = c.range_from-rest.utf8;
      count = omega (arith, c.loop-start.invariant.count, fewer, left);
      within = omega (arith, c.loop-start.invariant.within, c.range_from-rest.ensures.len, some);
    }

pub returns-clause-count : goal.returns-clause-count
returns-clause-count c =
    let none = no_more_breaks (chars c.loop-start.rest.now) c.in_default.ensures.last_line in
    omega (arith, none, c.loop-start.invariant.count)
