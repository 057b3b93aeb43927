use Rattle.std.specs.Prelude.{None, false, ◌+◌, ◌≡◌}
use Rattle.yaml_docs.proofs.Prelude.{err_from_is_err_and, rest, all_comments, document_node_at, explicit_with, read_explicit, fault_passed}
use Rattle.yaml_docs.proofs.DocumentSteps.{dashes_there, explicit_found, explicit_is, inside_line}
use Rattle.yaml_docs.proofs.documents.explicit_end.Goals as goal

pub explicit_node_end-requires-clause-at : goal.explicit_node_end-requires-clause-at
explicit_node_end-requires-clause-at c = (dashes_there c.args.text.now c.args.at c.utf8.text c.requires.at c.requires.mark).boundary

pub explicit_node_end-requires-clause-inside_line : goal.explicit_node_end-requires-clause-inside_line
explicit_node_end-requires-clause-inside_line c = inside_line c.args.text.now c.args.at c.utf8.text c.requires.at c.requires.mark

pub returns-in_err-end-clause-none : goal.returns-in_err-end-clause-none
returns-in_err-end-clause-none c =
    let text = c.args.text.now in
    let at = c.args.at in
    let there = dashes_there text at c.utf8.text c.requires.at c.requires.mark in
    fault_passed c.from_residual-in_err-end.result c.in_err-end.field-0.0
    (explicit_with document_node_at (rest text (at + 3)) (all_comments false (rest text (at + 3))) ≡ None)
    (read_explicit document_node_at (rest text at) ≡ None)
    (λ h. explicit_is (rest text at) (rest text (at + 3)) None c.requires.mark there.leaves h) c.in_err-end.ensures.none
    (err_from_is_err_and c.from_residual-in_err-end.result c.from_residual-in_err-end.ensures.1)

pub returns-clause-reads : goal.returns-clause-reads
returns-clause-reads c =
    let there = dashes_there c.args.text.now c.args.at c.utf8.text c.requires.at c.requires.mark in
    explicit_found c.args.text.now c.args.at c.args.events.now c.push.new.self c.explicit_node_end.new.events
    c.push-2.new.self c.in_ok-end.end c.requires.mark there.leaves
    c.in_ok-push.ensures.ok c.in_ok-push-2.ensures.ok c.in_ok-end.ensures.reads
