use Rattle.std.{proofs.Common.{◌≡◌, sym, subst, arith, ◌-◌, ◌*◌, ◌<◌, length}, specs.Prelude.not}
use Rattle.yaml_flow.proofs.{Prelude.{context_of, unbroken_between, fault_kept, faults_so, ok_so}, NodeSteps.node_missing}
use Rattle.yaml_flow.proofs.{GapPlaces.{broken_by, unbroken_by}, ScalarSteps.{scalar_missing, scalar_node}, Stacks.kept_then}
use Rattle.yaml_flow.proofs.{collection.scalar.Goals.{then-is_over_lines, else-is_over_lines}, SameLines.{line_follows, line_stays}}
use Rattle.yaml_flow.{proofs.SameLines.{line_then, same_line_here}, specs.{Scalars.NoFlowScalar, Frames.{LineMoves, Onward, place_of}}}
use Rattle.yaml_flow.specs.Frames.{steps_left}
use Rattle.yaml_flow.proofs.collection.scalar.Goals as goal

pub returns-in-Err-clause-none : goal.returns-in-Err-clause-none
returns-in-Err-clause-none c =
    let n = c.args.setting.n in
    let d = context_of c.args.setting.context in
    let text = c.args.text.now in
    let start = c.args.top.now.start in
    fault_kept c.in-Err.fault c.no_scalar.result (NoFlowScalar n d text start) _ c.no_scalar.ensures
    (λ none. λ w here. node_missing n d text w c.args.top.now start c.args.events.now
    (scalar_missing n d text start c.requires.no_seq c.requires.no_map none) here) c.in-Err.ensures.none

pub returns-clause-line : goal.returns-clause-line
returns-clause-line c =
    let text = c.args.text.now in
    let start = c.args.top.now.start in
    let read = c.in-Ok.ensures.found in
    let above = read.above in
    let over : c.is_over_lines.result ≡ not (unbroken_between text start c.in-Ok.found.end) = c.is_over_lines.ensures in
    let moves : LineMoves text c.args.line.now start c.if-is_over_lines.line c.in-Ok.found.end = elim c.if-is_over_lines.branch [
      | then-is_over_lines w ↦ subst (λ k. LineMoves text c.args.line.now start k c.in-Ok.found.end) (sym w.line-is)
          (line_follows text c.args.line.now start c.in-Ok.found.end c.utf8.text above c.requires.at read.boundary
          (broken_by _ _ over w.if-is_over_lines.true))
      | else-is_over_lines w ↦ subst (λ k. LineMoves text c.args.line.now start k c.in-Ok.found.end) (sym w.line-is)
          (line_stays text c.args.line.now start c.in-Ok.found.end c.utf8.text
          (omega (arith, above)) c.requires.at read.boundary (unbroken_by _ _ over w.if-is_over_lines.false))
    ] in
    ok_so c.plug.result _ _
    (λ next h. line_then text c.args.line.now start c.if-is_over_lines.line c.in-Ok.found.end c.plug.new.line
    (place_of next) (omega (arith, above)) c.requires.at moves h) c.plug.ensures.line

pub returns-clause-stands : goal.returns-clause-stands
returns-clause-stands c =
    let n = c.args.setting.n in
    let d = context_of c.args.setting.context in
    let text = c.args.text.now in
    let top = c.args.top.now in
    let events = c.args.events.now in
    ok_so c.plug.result _ _
    (λ next h. λ w here. h w (scalar_node n d text w top c.node_end-node_end.result c.in-Ok.found events
    c.push_scalar.new.events c.utf8.text c.requires.at c.requires.no_seq c.requires.no_map c.requires.count
    c.in-Ok.ensures.found c.node_end-node_end.ensures
    c.in_ok-push_scalar.ensures.ok here)) c.plug.ensures.stands

pub returns-clause-none : goal.returns-clause-none
returns-clause-none c =
    let n = c.args.setting.n in
    let d = context_of c.args.setting.context in
    let text = c.args.text.now in
    let top = c.args.top.now in
    let events = c.args.events.now in
    faults_so c.plug.result _ _
    (λ h. λ w here. h w (scalar_node n d text w top c.node_end-node_end.result c.in-Ok.found events c.push_scalar.new.events
    c.utf8.text c.requires.at c.requires.no_seq c.requires.no_map c.requires.count
    c.in-Ok.ensures.found c.node_end-node_end.ensures
    c.in_ok-push_scalar.ensures.ok here)) c.plug.ensures.none

pub plug-requires-clause-line : goal.plug-requires-clause-line
plug-requires-clause-line c =
    let text = c.args.text.now in
    let start = c.args.top.now.start in
    let read = c.in-Ok.ensures.found in
    let above = read.above in
    let over : c.is_over_lines.result ≡ not (unbroken_between text start c.in-Ok.found.end) = c.is_over_lines.ensures in
    let moves : LineMoves text c.args.line.now start c.if-is_over_lines.line c.in-Ok.found.end = elim c.if-is_over_lines.branch [
      | then-is_over_lines w ↦ subst (λ k. LineMoves text c.args.line.now start k c.in-Ok.found.end) (sym w.line-is)
          (line_follows text c.args.line.now start c.in-Ok.found.end c.utf8.text above c.requires.at read.boundary
          (broken_by _ _ over w.if-is_over_lines.true))
      | else-is_over_lines w ↦ subst (λ k. LineMoves text c.args.line.now start k c.in-Ok.found.end) (sym w.line-is)
          (line_stays text c.args.line.now start c.in-Ok.found.end c.utf8.text
          (omega (arith, above)) c.requires.at read.boundary (unbroken_by _ _ over w.if-is_over_lines.false))
    ] in
    moves.tells start c.requires.at (omega arith) (same_line_here text c.args.line.now start c.requires.line)

pub returns-clause-onward : goal.returns-clause-onward
returns-clause-onward c =
    let above = c.in-Ok.ensures.found.above in
    ok_so c.plug.result _ (Onward c.args.text.now c.args.top.now.start)
    (λ next h. let on = h.above in record { boundary = h.boundary; above = omega (arith, above, on); within = h.within })
    c.plug.ensures.onward

pub returns-clause-less : goal.returns-clause-less
returns-clause-less c =
    let text = c.args.text.now in
    let above = c.in-Ok.ensures.found.above in
    let within = c.in-Ok.ensures.found.within in
    ok_so c.plug.result _ (λ next. steps_left text next < 2 * (length text - c.args.top.now.start))
    (λ next h. omega (arith, above, within, h)) c.plug.ensures.less

pub plug-requires-clause-count : goal.plug-requires-clause-count
plug-requires-clause-count c =
    let count = c.requires.count in
    let pushed = c.push_scalar.ensures.kept (length c.args.events.now) (omega arith) in
    let room = pushed.0 in
    omega (arith, count, room)

pub returns-clause-kept : goal.returns-clause-kept
returns-clause-kept c = λ k l.
    let count = c.requires.count in
    kept_then k c.args.events.now c.push_scalar.new.events c.plug.new.events (c.push_scalar.ensures.kept k)
    (c.plug.ensures.kept k (omega (arith, count, l))) l
