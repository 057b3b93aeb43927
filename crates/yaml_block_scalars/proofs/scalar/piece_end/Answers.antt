use Rattle.yaml_block_scalars.{proofs.{Prelude.rest, Bodies.{piece_ended, piece_unfed}}, specs.{Lines.IsTextStart, Meant.chomping_of}}
use Rattle.yaml_block_scalars.proofs.scalar.piece_end.Goals as goal

pub returns-in_default-clause-none : goal.returns-in_default-clause-none
returns-in_default-clause-none c = λ l gs ls after d e _ _.
    piece_unfed (chomping_of c.args.chomping) gs l ls c.feeds_after.result (rest c.args.text.now c.args.line.end)
    (rest c.args.text.now c.args.line.next) c.in_default.ensures.none (c.feeds_after.ensures l d) e

pub returns-in-Some-text_start-clause-none : goal.returns-in-Some-text_start-clause-none
returns-in-Some-text_start-clause-none c = λ l gs ls after _ _ _ e.
    let start : IsTextStart c.args.indent c.args.text.now c.args.line.next c.in-Some-text_start.field-0 =
    c.in-Some-text_start.ensures.found in
    piece_ended c.args.indent (chomping_of c.args.chomping)
    (rest c.args.text.now c.args.line.next) after gs l ls start.goes c.requires.past e
