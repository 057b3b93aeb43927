use Rattle.std.proofs.Common.{sym, ap, arith}
use Rattle.yaml_config.proofs.{Prelude.{tree_of, element_size, value_size, Size}, TallyLemmas.tally_more}
use Rattle.yaml_writer.proofs.{SizeBounds.{element_bound, element_small}, SizeSums.{filled_value, other_value}}
use Rattle.yaml_config.proofs.tally.Tally.after_key.Goals as goal

pub returns-then-is_filled : goal.returns-then-is_filled
returns-then-is_filled c =
    let t = tree_of c.args.tree.now in
    let is = filled_value t c.if-is_filled.ensures in
    let bytes = sym (ap (λ (size : Size). size.bytes) is) in
    let lines = sym (ap (λ (size : Size). size.lines) is) in
    tally_more _ _ 3 1 (element_size t) (value_size t) c.requires bytes lines (element_bound t) (omega arith) (omega arith)
    (element_small t) c.plus.ensures.bytes c.plus.ensures.lines

pub returns-else-is_filled : goal.returns-else-is_filled
returns-else-is_filled c =
    let t = tree_of c.args.tree.now in
    let is = other_value t c.if-is_filled.ensures in
    let bytes = sym (ap (λ (size : Size). size.bytes) is) in
    let lines = sym (ap (λ (size : Size). size.lines) is) in
    tally_more _ _ 1 0 (element_size t) (value_size t) c.requires bytes (omega (arith, lines)) (element_bound t) (omega arith)
    (omega arith) (element_small t) c.plus-else-is_filled.ensures.bytes c.plus-else-is_filled.ensures.lines
