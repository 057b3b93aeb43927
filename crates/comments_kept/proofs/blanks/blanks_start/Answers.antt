use Rattle.std.{proofs.Common.{◌-◌, sym, subst, arith, rules, ◌≡◌}, specs.Prelude.{false, slice_index}}
use Rattle.{yaml_chars.specs.Classes.white, comments_kept.proofs.BlankEnds.run_more}
use Rattle.comments_kept.proofs.blanks.blanks_start.Goals as goal

pub loop-start-preserved : goal.loop-start-preserved
loop-start-preserved c = (
  omega arith,
  run_more c.args.bytes.now c.loop-start.start c.args.at (omega arith) (sym c.if-is_white.ensures)
      c.loop-start.invariant.1,
  search rules,
)

pub returns-else-is_white-clause-run : goal.returns-else-is_white-clause-run
returns-else-is_white-clause-run c = record {
  ordered = c.loop-start.invariant.0;
  run = c.loop-start.invariant.1;
  first = λ before e. subst (λ n. white (slice_index c.args.bytes.now n) ≡ false)
      (let same : c.loop-start.start - 1 ≡ before = omega (arith, e) in same) (sym c.if-is_white.ensures);
}

pub returns-clause-run : goal.returns-clause-run
returns-clause-run c = record {
  ordered = c.loop-start.invariant.0;
  run = c.loop-start.invariant.1;
  first = λ before e. absurd (omega (arith, e));
}
