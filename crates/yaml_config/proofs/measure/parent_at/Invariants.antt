use Rattle.std.proofs.Common.{take}
use Rattle.yaml_config.{proofs.Prelude.{tree_of, texts}, specs.{Changes.Located, declared.change.Slot.TheVariants.Value}}
use Rattle.yaml_config.proofs.measure.parent_at.Given as goal

abbrev pub invariant-loop-passed : goal.invariant-loop-passed
invariant-loop-passed l = Located (texts (take l.passed l.tokens)) Value (tree_of l.tree) l.slot (tree_of l.node)
