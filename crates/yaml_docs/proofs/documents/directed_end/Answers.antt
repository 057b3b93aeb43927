use Rattle.std.{specs.Prelude.{None, ◌≡◌}, proofs.Common.{sym, ◌∙◌}}
use Rattle.yaml_docs.proofs.{Prelude.{rest, document_node_at, read_directed, read_explicit, faults_so, ok_so}, DocumentSteps.document_found}
use Rattle.yaml_docs.{proofs.DocumentSteps.{document_missing, no_explicit}, specs.Documents.{DocumentRead, ExplicitRead}}
use Rattle.yaml_docs.proofs.documents.directed_end.Goals as goal

pub returns-in_default-clause-none : goal.returns-in_default-clause-none
returns-in_default-clause-none c = c.in_default.ensures.none document_node_at

pub returns-then-not-is_marker_of-clause-none : goal.returns-then-not-is_marker_of-clause-none
returns-then-not-is_marker_of-clause-none c =
    let start = c.in-Some.line.start in
    document_missing c.args.text.now c.args.at c.in-Some.line c.in-Some.ensures.found
    (no_explicit document_node_at (rest c.args.text.now start) (sym c.is_marker_of.ensures ∙ c.if-not-is_marker_of.true))

pub returns-clause-reads : goal.returns-clause-reads
returns-clause-reads c =
    let text = c.args.text.now in
    let line = c.in-Some.line in
    let old = c.args.events.now in
    let new = c.explicit_end.new.events in
    ok_so c.explicit_end.result (ExplicitRead text line.start old new) (DocumentRead text c.args.at old new)
    (λ end r. document_found text c.args.at line old new end c.in-Some.ensures.found r) c.explicit_end.ensures.reads

pub returns-clause-none : goal.returns-clause-none
returns-clause-none c =
    let text = c.args.text.now in
    let line = c.in-Some.line in
    faults_so c.explicit_end.result (read_explicit document_node_at (rest text line.start) ≡ None)
    (read_directed document_node_at (rest text c.args.at) ≡ None)
    (document_missing text c.args.at line c.in-Some.ensures.found) c.explicit_end.ensures.none
