-- Which trees are within limits, and the faults of the others.
use Rattle.std.specs.Prelude.{◌≡◌, ◌<◌, ◌≤◌, IsTrue, false}
use Rattle.yaml_config.specs.{Prelude.{Good, style_text, byte_len, Tree, depth, distinct}, declared.limits.Limits.Limits}
use Rattle.yaml_events.specs.declared.read_fault.ReadFault.{ReadFault, TheVariants.{KeyTwice, TooDeep, LargeInStyle, OutOfMemory}}
use Rattle.yaml_grammar.specs.Reads as grammar
pub use Rattle.yaml_data.specs.OwnLimits.{own_limits}

-- limits of the code as the grammar's
abbrev pub limits_of : Limits → grammar.Limits
limits_of limits = record { bytes = limits.bytes; depth = limits.depth; style = limits.style }

-- all is text, in each mapping the keys differ, and the tree is within a Config's own limits
abbrev pub IsKept : Tree → Type 0
IsKept t = Good t own_limits

-- The fault of a tree: it holds, and no earlier one does. Memory may run out with any tree.
abbrev pub IsFirstFault : grammar.Limits → Tree → ReadFault → Type 0
IsFirstFault limits t KeyTwice = distinct t ≡ false
IsFirstFault limits t TooDeep = IsTrue (distinct t) × (limits.depth < depth t)
IsFirstFault limits t LargeInStyle =
    IsTrue (distinct t) × (depth t ≤ limits.depth) × (limits.style < byte_len (style_text t))
IsFirstFault limits t OutOfMemory = Unit {0}
IsFirstFault limits t _ = ⊥
