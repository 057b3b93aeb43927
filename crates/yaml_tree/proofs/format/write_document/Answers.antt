use Rattle.std.proofs.Common.{◌≡◌, Some, List, [], sym, ap, ◌∙◌, rules}
use Rattle.yaml_tree.proofs.{Prelude.{err_from_is_err_and, events_of, Event, shapes, nothing}, FrameLemmas.run}
use Rattle.yaml_tree.proofs.{OpenTextLemmas.indent_in-kept, WriterLemmas.{begins, is_written}, EventLemmas.{run_on, run_ended}}
use Rattle.yaml_tree.{proofs.EventLemmas.{stopped_refuses, unfinished_refuses}, specs.OpenText.indent_in}
use Rattle.yaml_tree.proofs.format.write_document.Goals as goal

pub loop-event-init : goal.loop-event-init
loop-event-init g c =
    let left : List Event = c.into_iter-event-iterator.result in
    let same : left ≡ c.args.events = search rules in (
      [],
      ap (λ (es : List Event). run (Some []) (shapes (events_of es))) same,
      begins g.S.Sink.Takes c.args.sink.now c.new-writer.result (g.met.S.Sink.takes_none c.args.sink.now) c.new-writer.ensures.keeps
          c.new-writer.ensures.indent,
    )

pub take-requires-clause-indent : goal.take-requires-clause-indent
take-requires-clause-indent g c =
    let writes = c.loop-event.invariant.2 in
    writes.indent ∙ sym (indent_in-kept c.loop-event.invariant.0) ∙ ap indent_in (sym writes.keeps.frames)

pub take-requires-clause-room : goal.take-requires-clause-room
take-requires-clause-room g c = let writes = c.loop-event.invariant.2 in writes.room

pub loop-event-preserved : goal.loop-event-preserved
loop-event-preserved g c =
    let l = c.loop-event in
    let fs = l.invariant.0 in
    let wrote = c.in_ok-take.ensures c.args.sink.now fs l.invariant.2 in (
      wrote.parts,
      run_on l.event-iterator c.next.new.self c.args.events c.in-Some.event fs wrote.parts
          c.in-Some.ensures.steps l.invariant.1 wrote.are,
      wrote.writes,
    )

pub returns-in_err-take : goal.returns-in_err-take
returns-in_err-take g c =
    let l = c.loop-event in
    let fs = l.invariant.0 in
    let p = err_from_is_err_and c.from_residual.result c.from_residual.ensures.1 in
    rw (p.1, p.2)
    (stopped_refuses l.event-iterator c.next.new.self c.args.events c.in-Some.event fs _
    c.in-Some.ensures.steps l.invariant.1 (c.in_err-take.ensures c.args.sink.now fs l.invariant.2))

pub returns-in_err-keys_differ : goal.returns-in_err-keys_differ
returns-in_err-keys_differ g c =
    let l = c.loop-event in
    let fs = l.invariant.0 in
    let all : List Event = c.args.events in
    let done : run (Some []) (shapes (events_of all)) ≡ Some fs =
    run_ended l.event-iterator all fs c.in-None.ensures.steps.0 l.invariant.1 in
    let p = err_from_is_err_and c.from_residual-in_err-keys_differ.result c.from_residual-in_err-keys_differ.ensures.1 in
    rw (p.1, p.2) (unfinished_refuses (events_of all) fs c.in_err-keys_differ.field-0.0 done
    (c.in_err-keys_differ.ensures fs l.invariant.2.keeps))

pub returns : goal.returns
returns g c =
    let l = c.loop-event in
    let fs = l.invariant.0 in
    let writes = l.invariant.2 in
    let all : List Event = c.args.events in
    let done : run (Some []) (shapes (events_of all)) ≡ Some fs =
    run_ended l.event-iterator all fs c.in-None.ensures.steps.0 l.invariant.1 in
    is_written g.S.Sink.Takes c.args.sink.now l.sink l.writer all nothing c.in_ok-keys_differ.keys_differ fs writes
    done (c.in_ok-keys_differ.ensures fs writes.keeps)
