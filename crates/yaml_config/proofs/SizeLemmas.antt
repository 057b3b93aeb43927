-- The size of a tree in each context, and its length in the one style.
use Rattle.std.proofs.Common.{◌≡◌, ◌^◌, ◌<◌, ◌≤◌, ap, arith}
use Rattle.yaml_config.{proofs.Prelude.{style_text, byte_len, Tree, element_size, value_size, Size}, specs.Changes.child_size}
use Rattle.yaml_config.specs.{Kept.own_limits, declared.change.Slot.{Slot, TheVariants.{Value, Element}}}
use Rattle.yaml_writer.proofs.SizeBounds.{element_bound, element_small, value_bound, value_small}

-- the numbers of a size
abbrev pub Fits : Size → Type 0
Fits size = (size.bytes < 2 ^ 32) × (size.lines < 2 ^ 32)

-- the size of a tree as an element is small if it is no longer than a configuration
pub element-fits : (t : Tree) (size : Size) → byte_len (style_text t) ≤ own_limits.style → size ≡ element_size t → Fits size
element-fits t size long is =
    let bytes = ap (λ (s : Size). s.bytes) is in
    let lines = ap (λ (s : Size). s.lines) is in
    (omega (arith, bytes, element_small t, long), omega (arith, lines, element_bound t, element_small t, long))

-- so is its size as a value
pub value-fits : (t : Tree) (size : Size) → byte_len (style_text t) ≤ own_limits.style → size ≡ value_size t → Fits size
value-fits t size long is =
    let bytes = ap (λ (s : Size). s.bytes) is in
    let lines = ap (λ (s : Size). s.lines) is in
    (omega (arith, bytes, value_small t, long), omega (arith, lines, value_bound t, value_small t, long))

-- so is the size in any context
pub child-fits : (slot : Slot) (t : Tree) (size : Size) → byte_len (style_text t) ≤ own_limits.style → size ≡ child_size slot t → Fits size
child-fits Value t size long is = value-fits t size long is
child-fits Element t size long is = element-fits t size long is
