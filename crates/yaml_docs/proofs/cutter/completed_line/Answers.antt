use Rattle.std.proofs.Common.{◌≡◌, inl, inr, arith, subst, sym, ◌∙◌}
use Rattle.yaml_docs.{proofs.Prelude.{cases_lt, false≢true}, specs.LineBegun.Completes}
use Rattle.yaml_docs.proofs.cutter.completed_line.Goals as goal

pub loop-dots-init : goal.loop-dots-init
loop-dots-init c k less b = absurd (omega (arith, less))

pub loop-dots-preserved : goal.loop-dots-preserved
loop-dots-preserved c k less b = elim (cases_lt k c.loop-dots.dots) [
  | inl low ↦ c.loop-dots.invariant k low b
  | inr high ↦ (let same : k ≡ c.loop-dots.dots = omega (arith, less, high) in
      absurd (false≢true (sym c.if-completes.false
      ∙ c.completes.ensures.otherwise (subst (Completes c.args.held.now c.args.bytes.now) same b))))
]

pub returns-clause-none : goal.returns-clause-none
returns-clause-none c dots b = c.loop-dots.invariant dots (omega (arith, b.begun.few, c.loop-dots-test.false)) b
