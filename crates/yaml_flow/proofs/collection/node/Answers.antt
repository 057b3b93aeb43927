use Rattle.std.{proofs.Common.{sym, subst, arith, ◌+◌, ◌-◌, ◌*◌, ◌<◌, refl, length}, specs.Prelude.◌∷◌}
use Rattle.yaml_flow.proofs.{Prelude.{rest, context_of, line_starts, flow_node_at, faults_so, ok_so, refuses}, FlowSteps.opened}
use Rattle.yaml_flow.proofs.{SameLines.opener_then, Signs.opener_starts, NodeSteps.{at_start, node_at_end, node_missing}}
use Rattle.yaml_flow.specs.Frames.{BeforeGap, Collection, Onward, in_sequence, place_of, steps_left}
use Rattle.yaml_flow.proofs.collection.node.Goals as goal

pub returns-then-at-text-clause-none : goal.returns-then-at-text-clause-none
returns-then-at-text-clause-none c =
    let n = c.args.setting.n in
    let d = context_of c.args.setting.context in
    let text = c.args.text.now in
    refuses c.fault.result _ (λ w here. node_at_end n d text w c.args.top.now c.args.at c.args.events.now
    (omega (arith, c.if-at-text.true)) here)

pub returns-in_default-clause-none : goal.returns-in_default-clause-none
returns-in_default-clause-none c =
    let n = c.args.setting.n in
    let d = context_of c.args.setting.context in
    let text = c.args.text.now in
    faults_so c.scalar.result _ _
    (λ h. λ w here. h w (at_start n d text w c.args.top.now c.args.at c.len-top.result c.args.events.now here)) c.scalar.ensures.none

pub pass-requires-clause-inside_line : goal.pass-requires-clause-inside_line
pass-requires-clause-inside_line c = opener_starts c.args.text.now c.args.at
    (in_sequence c.in-Some.kind) c.utf8.text c.requires.at c.in-Some.ensures.found

pub returns-clause-line : goal.returns-clause-line
returns-clause-line c =
    let text = c.args.text.now in
    ok_so c.pass.result _ _
    (λ next h. opener_then text c.args.line.now c.args.at (in_sequence c.in-Some.kind) c.pass.new.line
    (place_of next) c.utf8.text c.requires.at c.in-Some.ensures.found h) c.pass.ensures.line

pub returns-clause-stands : goal.returns-clause-stands
returns-clause-stands c =
    let n = c.args.setting.n in
    let d = context_of c.args.setting.context in
    let text = c.args.text.now in
    let at = c.args.at in
    let events = c.args.events.now in
    let top = c.args.top.now in
    let opens : Collection = record { reads = flow_node_at n d (line_starts text at) (rest text at); start = at; kept = events } in
    ok_so c.pass.result _ _
    (λ next h. λ whole inner around stack here. record {
      inner = opens;
      around = inner ∷ around;
      stack = (
        c.args.outer.now.items,
        record top { start = at; before = c.len-top.result },
        c.in_ok-push_open.ensures.ok,
        record {
          waits = at_start n d text inner top at c.len-top.result events here;
          start = refl;
          count = sym c.len-top.ensures;
          node = refl;
        },
        stack,
      );
      stands = h opens c.in_ok-top.field-0 c.begin.new.events
          (subst (λ s. BeforeGap n d text opens (in_sequence s) (at + 1) c.begin.new.events) (sym c.in_ok-top.ensures.kind)
          (opened n d d text at (in_sequence c.in-Some.kind) events c.begin.new.events
          (sym c.requires.inside) c.in-Some.ensures.found (c.in_ok-top.ensures.written text)));
    }) c.pass.ensures.stands

pub returns-clause-none : goal.returns-clause-none
returns-clause-none c =
    let n = c.args.setting.n in
    let d = context_of c.args.setting.context in
    let text = c.args.text.now in
    let at = c.args.at in
    let events = c.args.events.now in
    let opens : Collection = record { reads = flow_node_at n d (line_starts text at) (rest text at); start = at; kept = events } in
    faults_so c.pass.result _ _
    (λ h. λ w here. node_missing n d text w c.args.top.now at events
    (h opens (in_sequence c.in-Some.kind) c.begin.new.events
    (opened n d d text at (in_sequence c.in-Some.kind) events c.begin.new.events
    (sym c.requires.inside) c.in-Some.ensures.found (c.in_ok-top.ensures.written text))) here) c.pass.ensures.none

pub returns-clause-onward : goal.returns-clause-onward
returns-clause-onward c =
    ok_so c.pass.result _ (Onward c.args.text.now c.args.at)
    (λ next h. let on = h.above in record { boundary = h.boundary; above = omega (arith, on); within = h.within })
    c.pass.ensures.onward

pub returns-clause-less : goal.returns-clause-less
returns-clause-less c =
    let text = c.args.text.now in
    let below : c.args.at < length text = omega (arith, c.requires.at.0, c.if-at-text.false) in
    ok_so c.pass.result _ (λ next. steps_left text next < 2 * (length text - c.args.at))
    (λ next h. omega (arith, below, h)) c.pass.ensures.less

pub returns-clause-kept : goal.returns-clause-kept
returns-clause-kept c = λ k. c.begin.ensures.kept k
