use Rattle.std.proofs.Common.{◌≡◌, Some, List, []}
use Rattle.yaml_tree.proofs.{Prelude.{MatchResult-weaker, err_from_is_err_and, events_of, Event, shapes}, EventLemmas.{run_on, run_ended}}
use Rattle.yaml_tree.proofs.{EventLemmas.{run_tree, stopped_refuses, unfinished_refuses}, FrameLemmas.run}
use Rattle.yaml_tree.proofs.parts.document_value.Goals as goal

pub loop-event-preserved : goal.loop-event-preserved
loop-event-preserved g c =
    let l = c.loop-event in
    let fs = l.invariant.0 in
    let took = c.in_ok-take.ensures fs l.invariant.2 in (
      took.parts,
      run_on l.event-iterator c.next.new.self c.args.events c.in-Some.event fs took.parts
          c.in-Some.ensures.steps l.invariant.1 took.are,
      took.keeps,
    )

pub returns-in_err-take : goal.returns-in_err-take
returns-in_err-take g c =
    let l = c.loop-event in
    let fs = l.invariant.0 in
    let p = err_from_is_err_and c.from_residual.result c.from_residual.ensures.1 in
    rw (p.1, p.2)
    (stopped_refuses l.event-iterator c.next.new.self c.args.events c.in-Some.event fs _
    c.in-Some.ensures.steps l.invariant.1 (c.in_err-take.ensures fs l.invariant.2))

pub returns : goal.returns
returns g c =
    let l = c.loop-event in
    let fs = l.invariant.0 in
    let all : List Event = c.args.events in
    let done : run (Some []) (shapes (events_of all)) ≡ Some fs =
    run_ended l.event-iterator all fs c.in-None.ensures.steps.0 l.invariant.1 in
    MatchResult-weaker c.finish.result (c.finish.ensures fs l.invariant.2)
    (λ found has. record {
      tree = has.tree;
      is_tree = run_tree (events_of all) fs has.tree done has.is;
      kept_is = has.kept_is;
      keys = has.keys;
    })
    (λ fault h. unfinished_refuses (events_of all) fs fault done h)
