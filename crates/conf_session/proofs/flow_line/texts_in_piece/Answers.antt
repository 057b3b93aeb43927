use Rattle.std.proofs.Common.{subst, arith}
use Rattle.conf_session.{proofs.{Prelude.IfSome_then, FlowLineLemmas.flow_line_says}, specs.{FlowLine.IsFlowLine, PartLines.part_cut}}
use Rattle.conf_session.proofs.flow_line.texts_in_piece.Goals as goal

pub returns : goal.returns
returns c =
    let piece = c.args.piece.now in
    IfSome_then c.texts_in_line.result c.texts_in_line.ensures (λ texts object.
    flow_line_says c.unambiguous.ensures piece (part_cut texts) c.in-Ok.ensures.cases.1 (omega arith)
    (subst (λ bytes. IsFlowLine bytes (part_cut texts)) c.in-Ok.ensures.cases.0 object))
