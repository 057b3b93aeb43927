use Rattle.std.proofs.Common.{◌-◌, ◌∙◌, ap, sym, arith, get_or}
use Rattle.yaml_flow_scalars.proofs.{Prelude.white, WhiteEnds.{above_space, white_start_is}}
use Rattle.yaml_flow_scalars.proofs.fold.white_start.Goals as goal

pub returns-else-is_white : goal.returns-else-is_white
returns-else-is_white c =
    let i = c.loop-start.invariant in
    let r = c.requires in
    white_start_is c.args.text.now c.args.from c.loop-start.start c.args.end c.utf8.text r.from r.end i.above i.below
    i.passes (λ _. ap (λ t. white (get_or t (c.loop-start.start - 1) 0)) (sym c.as_bytes-bytes.ensures.value)
    ∙ (sym c.is_white.ensures ∙ c.if-is_white.false))

pub returns-else-bytes-start-le32 : goal.returns-else-bytes-start-le32
returns-else-bytes-start-le32 c =
    let i = c.loop-start.invariant in
    let r = c.requires in
    let byte = ap (λ t. get_or t (c.loop-start.start - 1) 0) c.as_bytes-bytes.ensures.value in
    white_start_is c.args.text.now c.args.from c.loop-start.start c.args.end c.utf8.text r.from r.end i.above i.below
    i.passes (λ _. above_space (get_or c.args.text.now (c.loop-start.start - 1) 0) (omega (arith, byte, c.if-bytes-start-le32.false)))

pub returns-after-loop-start : goal.returns-after-loop-start
returns-after-loop-start c =
    let i = c.loop-start.invariant in
    let r = c.requires in
    white_start_is c.args.text.now c.args.from c.loop-start.start c.args.end c.utf8.text r.from r.end i.above i.below
    i.passes (λ l. absurd (omega arith))
