use Rattle.std.proofs.Common.{refl, ap, sym, ◌∙◌, List, ℕ, Bool}
use Rattle.yaml_style.proofs.Prelude.{chars, IsCharBoundary-start}
use Rattle.yaml_style.proofs.comparison.after_common.Goals as goal

pub loop-len-init : goal.loop-len-init
loop-len-init c = record {
  here = IsCharBoundary-start c.args.text.now c.utf8.text;
  there = IsCharBoundary-start c.args.other.now c.utf8.other;
  same = refl;
}

pub returns : goal.returns
returns c =
    ap chars c.range_from.ensures.value ∙ sym c.in_default.ensures.none ∙ ap (λ (s : List ℕ × Bool). s.0) (sym c.loop-len.invariant.same)
