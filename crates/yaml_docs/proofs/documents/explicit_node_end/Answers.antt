use Rattle.std.specs.Prelude.{None, false, ◌≡◌}
use Rattle.yaml_docs.proofs.Prelude.{rest, line_starts, all_comments, document_node_at, explicit_with, faults_so, ok_so, BlockNodeRead}
use Rattle.yaml_docs.{proofs.DocumentSteps.{content_missing, content_read, nothing_read}, specs.Documents.ExplicitNodeRead}
use Rattle.yaml_docs.proofs.documents.explicit_node_end.Goals as goal

pub returns-in_default-clause-reads : goal.returns-in_default-clause-reads
returns-in_default-clause-reads c =
    let text = c.args.text.now in
    let old = c.args.events.now in
    let new = c.block_node.new.events in
    ok_so c.block_node.result (BlockNodeRead 0 false text c.args.at old new) (ExplicitNodeRead text c.args.at old new)
    (λ end r. content_read text c.args.at old new end c.requires.inside_line c.in_default.ensures.none r) c.block_node.ensures.reads

pub returns-in_default-clause-none : goal.returns-in_default-clause-none
returns-in_default-clause-none c =
    let text = c.args.text.now in
    let at = c.args.at in
    faults_so c.block_node.result (document_node_at (line_starts text at) (rest text at) ≡ None)
    (explicit_with document_node_at (rest text at) (all_comments false (rest text at)) ≡ None)
    (content_missing text at c.requires.inside_line c.in_default.ensures.none) c.block_node.ensures.missing

pub returns-clause-reads : goal.returns-clause-reads
returns-clause-reads c =
    let absent = c.in_ok-push_omitted.ensures.ok in
    nothing_read c.args.text.now c.args.at c.args.events.now c.push_omitted.new.self c.in-Some.end absent.event
    c.in-Some.ensures.found absent.is absent.means (absent.borrows c.args.text.now)
