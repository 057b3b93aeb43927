use Rattle.std.proofs.Common.{◌≡◌, ◌+◌, List, [], arith, sym, ap, ◌∙◌}
use Rattle.yaml_tree.{proofs.{Prelude.{events_of, shapes}, DepthLemmas.{deepest_from, events_deepest}}, specs.Reading.document_count}
use Rattle.yaml_grammar.specs.Events as grammar
use Rattle.yaml_tree.proofs.documents.Outline.of.Goals as goal

pub returns : goal.returns
returns c =
    let l = c.loop-event in
    let all : List grammar.Event = events_of c.args.events.now in
    let end : l.event-iterator ≡ [] = c.in-None.ensures.steps.0 in
    let counted : l.documents + 0 ≡ document_count all =
    sym (ap (λ es. l.documents + document_count es) end) ∙ l.invariant.1 in
    (omega (arith, counted), λ t is. sym (ap (λ es. deepest_from l.open l.depth (shapes es)) end) ∙ l.invariant.3 ∙ events_deepest all t is)
