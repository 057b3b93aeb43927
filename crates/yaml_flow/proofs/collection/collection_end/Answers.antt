use Rattle.std.{proofs.Common.{◌+◌, ◌<◌, sym, ap, ◌∙◌, subst, arith, refl}, specs.Prelude.[]}
use Rattle.yaml_flow.proofs.{Prelude.{err_from_is_err_and, All-nil, All-same, context_of, in_flow, fault_passed}, FlowSteps.in_flow_twice}
use Rattle.yaml_flow.proofs.{FlowSteps.opened, Signs.opener_starts, Stacks.{before, closed, kept_on, kept_once, outermost, refused}}
use Rattle.yaml_flow.proofs.Stacks.{stack_none, started, starts_pop, starts_push, stepped, turned, whole_read}
use Rattle.yaml_flow.specs.{declared.collection.Next.TheVariants.{Entry, Node, AfterEntry, Closed}, Frames.{BeforeGap, Collection}}
use Rattle.yaml_flow.specs.Frames.{LineMoves, Onward, Started, WholeRead, in_sequence, place_of, steps_left}
use Rattle.yaml_flow.proofs.collection.collection_end.Goals as goal

pub pass-requires-clause-inside_line : goal.pass-requires-clause-inside_line
pass-requires-clause-inside_line c = opener_starts c.args.text.now c.args.at
    (in_sequence c.args.kind) c.utf8.text c.requires.at c.requires.bracket

pub returns-in_err-next-clause-none : goal.returns-in_err-next-clause-none
returns-in_err-next-clause-none c =
    let n = c.args.n in
    let outside = context_of c.args.c in
    let text = c.args.text.now in
    let at = c.args.at in
    fault_passed c.from_residual-in_err-next.result c.in_err-next.field-0.0 _ _
    (λ f. f (outermost n outside text at c.args.events.now) (in_sequence c.args.kind) c.begin.new.events
    (opened n outside (context_of c.in_flow.result) text at (in_sequence c.args.kind) c.args.events.now c.begin.new.events
    c.in_flow.ensures c.requires.bracket (c.in_ok-top.ensures.written text)))
    c.in_err-next.ensures.none (err_from_is_err_and c.from_residual-in_err-next.result c.from_residual-in_err-next.ensures.1)

pub nodes-init : goal.nodes-init
nodes-init c =
    let n = c.args.n in
    let outside = context_of c.args.c in
    let d = context_of c.in_flow.result in
    let text = c.args.text.now in
    let at = c.args.at in
    let whole : Collection = outermost n outside text at c.args.events.now in
    let top = c.in_ok-top.top in
    let next = c.in_ok-next.next in
    let before : BeforeGap n d text whole (in_sequence c.args.kind) (at + 1) c.begin.new.events =
    opened n outside d text at (in_sequence c.args.kind) c.args.events.now c.begin.new.events c.in_flow.ensures
    c.requires.bracket (c.in_ok-top.ensures.written text) in
    let moves : LineMoves text at (at + 1) c.pass.new.line (place_of next) = c.in_ok-next.ensures.line in
    record {
      reading = record {
        waits = record {
          inner = whole;
          around = [];
          stack = (c.requires.empty, refl);
          stands = c.in_ok-next.ensures.stands whole top c.begin.new.events
              (subst (λ s. BeforeGap n d text whole (in_sequence s) (at + 1) c.begin.new.events) (sym c.in_ok-top.ensures.kind)
              before);
        };
        onward = c.in_ok-next.ensures.onward;
        within = moves.within (omega arith);
        starts = All-same (Started text c.pass.new.line (place_of next)) c.args.outer.now.items []
            c.requires.empty (All-nil (Started text c.pass.new.line (place_of next)));
      };
      inner = ap in_flow c.in_flow.ensures ∙ (in_flow_twice outside ∙ sym c.in_flow.ensures);
    }

pub returns-in_err-next-in-Entry-clause-none : goal.returns-in_err-next-in-Entry-clause-none
returns-in_err-next-in-Entry-clause-none c =
    fault_passed c.from_residual-in_err-next-in-Entry.result c.in_err-next-in-Entry.field-0.0 _ _
    (refused c.nodes.invariant.reading (Entry c.in-Entry.at) c.in-Entry.is) c.in_err-next-in-Entry.ensures.none
    (err_from_is_err_and c.from_residual-in_err-next-in-Entry.result c.from_residual-in_err-next-in-Entry.ensures.1)

pub returns-in_err-next-in-Entry-clause-kept : goal.returns-in_err-next-in-Entry-clause-kept
returns-in_err-next-in-Entry-clause-kept c = kept_on c.nodes.invariant.reading c.entry.new.events c.entry.ensures.kept

pub returns-in_err-next-in-Node-clause-none : goal.returns-in_err-next-in-Node-clause-none
returns-in_err-next-in-Node-clause-none c =
    fault_passed c.from_residual-in_err-next-in-Node.result c.in_err-next-in-Node.field-0.0 _ _
    (refused c.nodes.invariant.reading (Node c.in-Node.at) c.in-Node.is) c.in_err-next-in-Node.ensures.none
    (err_from_is_err_and c.from_residual-in_err-next-in-Node.result c.from_residual-in_err-next-in-Node.ensures.1)

pub returns-in_err-next-in-Node-clause-kept : goal.returns-in_err-next-in-Node-clause-kept
returns-in_err-next-in-Node-clause-kept c = kept_on c.nodes.invariant.reading c.node.new.events c.node.ensures.kept

pub returns-in_err-next-in-AfterEntry-clause-none : goal.returns-in_err-next-in-AfterEntry-clause-none
returns-in_err-next-in-AfterEntry-clause-none c =
    fault_passed c.from_residual-in_err-next-in-AfterEntry.result c.in_err-next-in-AfterEntry.field-0.0 _ _
    (refused c.nodes.invariant.reading (AfterEntry c.in-AfterEntry.at) c.in-AfterEntry.is)
    c.in_err-next-in-AfterEntry.ensures.none
    (err_from_is_err_and c.from_residual-in_err-next-in-AfterEntry.result
    c.from_residual-in_err-next-in-AfterEntry.ensures.1)

pub returns-in_err-next-in-AfterEntry-clause-kept : goal.returns-in_err-next-in-AfterEntry-clause-kept
returns-in_err-next-in-AfterEntry-clause-kept c =
    kept_on c.nodes.invariant.reading c.after_entry.new.events c.after_entry.ensures.kept

pub returns-in-None-clause-found : goal.returns-in-None-clause-found
returns-in-None-clause-found c =
    let n = c.args.n in
    let text = c.args.text.now in
    let at = c.args.at in
    let whole : Collection = outermost n (context_of c.args.c) text at c.args.events.now in
    let reading = c.nodes.invariant.reading in
    let on : Onward text (at + 1) (Closed c.in-Closed.end) = subst (λ x. Onward text (at + 1) x) c.in-Closed.is
    reading.onward in
    let all : WholeRead n (context_of c.in_flow.result) text whole c.in-Closed.end c.nodes.events =
    whole_read n (context_of c.in_flow.result) text whole c.nodes.outer.items c.nodes.top c.nodes.next c.in-Closed.end
    c.nodes.events reading.waits c.in-Closed.is
    (omega (arith, c.in-None.ensures.cases.0, c.nodes.outer.ok.0)) in
    let above = on.above in
    record {
      above = omega (arith, above);
      boundary = on.boundary;
      within = on.within;
      inside_line = all.inside_line;
      node = all.node;
      found = all.reads;
      appended = all.written;
    }

pub returns-in-None-clause-kept : goal.returns-in-None-clause-kept
returns-in-None-clause-kept c = kept_on c.nodes.invariant.reading c.nodes.events (λ k l. (l, refl))

pub plug-requires-clause-start : goal.plug-requires-clause-start
plug-requires-clause-start c =
    (started c.nodes.invariant.reading c.pop.new.self.items c.in-Some.frame c.in-Some.ensures.items).1.boundary

pub plug-requires-clause-count : goal.plug-requires-clause-count
plug-requires-clause-count c =
    (closed c.nodes.invariant.reading c.pop.new.self.items c.in-Some.frame c.in-Closed.end c.in-Closed.is
    c.in-Some.ensures.items).count

pub plug-requires-clause-line : goal.plug-requires-clause-line
plug-requires-clause-line c =
    (subst (λ x. Started c.args.text.now c.nodes.line (place_of x) c.in-Some.frame) c.in-Closed.is
    (started c.nodes.invariant.reading c.pop.new.self.items c.in-Some.frame c.in-Some.ensures.items).1).same_line

pub returns-in_err-next-in-Some-clause-none : goal.returns-in_err-next-in-Some-clause-none
returns-in_err-next-in-Some-clause-none c =
    let p = closed c.nodes.invariant.reading c.pop.new.self.items c.in-Some.frame c.in-Closed.end c.in-Closed.is
    c.in-Some.ensures.items in
    fault_passed c.from_residual-in_err-next-in-Some.result c.in_err-next-in-Some.field-0.0 _ _
    (λ f. stack_none c.args.n (context_of c.in_flow.result) c.args.text.now
    (outermost c.args.n (context_of c.args.c) c.args.text.now c.args.at c.args.events.now) p.around
    c.pop.new.self.items p.outer p.stack (f p.outer p.node))
    c.in_err-next-in-Some.ensures.none (err_from_is_err_and c.from_residual-in_err-next-in-Some.result
    c.from_residual-in_err-next-in-Some.ensures.1)

pub returns-in_err-next-in-Some-clause-kept : goal.returns-in_err-next-in-Some-clause-kept
returns-in_err-next-in-Some-clause-kept c =
    let p = closed c.nodes.invariant.reading c.pop.new.self.items c.in-Some.frame c.in-Closed.end c.in-Closed.is
    c.in-Some.ensures.items in
    let room = p.kept in
    λ k l. kept_once c.nodes.invariant.reading c.plug.new.events k (c.plug.ensures.kept k (omega (arith, l, room))) l

pub nodes-preserved-in_ok-next-in-Entry : goal.nodes-preserved-in_ok-next-in-Entry
nodes-preserved-in_ok-next-in-Entry c =
    let done = c.in_ok-next-in-Entry in
    record {
      reading = stepped c.nodes.invariant.reading (Entry c.in-Entry.at) c.in-Entry.is done.ensures.stands
          done.ensures.onward done.ensures.line;
      inner = c.nodes.invariant.inner;
    }

pub nodes-preserved-in_ok-next-in-AfterEntry : goal.nodes-preserved-in_ok-next-in-AfterEntry
nodes-preserved-in_ok-next-in-AfterEntry c =
    let done = c.in_ok-next-in-AfterEntry in
    record {
      reading = stepped c.nodes.invariant.reading (AfterEntry c.in-AfterEntry.at) c.in-AfterEntry.is
          done.ensures.stands done.ensures.onward done.ensures.line;
      inner = c.nodes.invariant.inner;
    }

pub nodes-preserved-in_ok-next-in-Node : goal.nodes-preserved-in_ok-next-in-Node
nodes-preserved-in_ok-next-in-Node c =
    let done = c.in_ok-next-in-Node in
    let here = before c.nodes.invariant.reading (Node c.in-Node.at) c.in-Node.is in
    record {
      reading = turned c.nodes.invariant.reading (Node c.in-Node.at) c.in-Node.is
          (λ w. done.ensures.stands (outermost c.args.n (context_of c.args.c) c.args.text.now c.args.at
          c.args.events.now) w.inner w.around w.stack w.stands)
          (starts_push c.args.text.now c.nodes.line c.in-Node.at c.nodes.outer.items c.node.new.outer.items
          here.onward.boundary here.within done.ensures.opened)
          done.ensures.onward done.ensures.line;
      inner = c.nodes.invariant.inner;
    }

pub nodes-preserved : goal.nodes-preserved
nodes-preserved c =
    let done = c.in_ok-next-in-Some in
    let p = closed c.nodes.invariant.reading c.pop.new.self.items c.in-Some.frame c.in-Closed.end c.in-Closed.is
    c.in-Some.ensures.items in
    record {
      reading = turned c.nodes.invariant.reading (Closed c.in-Closed.end) c.in-Closed.is
          (λ w. record {
            inner = p.outer;
            around = p.around;
            stack = p.stack;
            stands = done.ensures.stands p.outer p.node;
          })
          (λ s. (starts_pop c.args.text.now c.nodes.line c.in-Closed.end c.nodes.outer.items c.pop.new.self.items
          c.in-Some.frame c.in-Some.ensures.items s).0)
          done.ensures.onward done.ensures.line;
      inner = c.nodes.invariant.inner;
    }

pub nodes-smaller-in_ok-next-in-Entry : goal.nodes-smaller-in_ok-next-in-Entry
nodes-smaller-in_ok-next-in-Entry c =
    let text = c.args.text.now in
    subst (λ k. steps_left text c.in_ok-next-in-Entry.next < k) (sym (ap (steps_left text) c.in-Entry.is))
    c.in_ok-next-in-Entry.ensures.less

pub nodes-smaller-in_ok-next-in-AfterEntry : goal.nodes-smaller-in_ok-next-in-AfterEntry
nodes-smaller-in_ok-next-in-AfterEntry c =
    let text = c.args.text.now in
    subst (λ k. steps_left text c.in_ok-next-in-AfterEntry.next < k) (sym (ap (steps_left text) c.in-AfterEntry.is))
    c.in_ok-next-in-AfterEntry.ensures.less

pub nodes-smaller-in_ok-next-in-Node : goal.nodes-smaller-in_ok-next-in-Node
nodes-smaller-in_ok-next-in-Node c =
    let text = c.args.text.now in
    subst (λ k. steps_left text c.in_ok-next-in-Node.next < k) (sym (ap (steps_left text) c.in-Node.is))
    c.in_ok-next-in-Node.ensures.less

pub nodes-smaller : goal.nodes-smaller
nodes-smaller c =
    let text = c.args.text.now in
    let less = c.in_ok-next-in-Some.ensures.less in
    subst (λ k. steps_left text c.in_ok-next-in-Some.next < k) (sym (ap (steps_left text) c.in-Closed.is))
    (omega (arith, less))
