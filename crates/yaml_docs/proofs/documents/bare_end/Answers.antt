use Rattle.std.specs.Prelude.{None, ◌≡◌}
use Rattle.yaml_docs.proofs.{Prelude.{err_from_is_err_and, rest, line_starts, document_node_at, fault_passed}, DocumentSteps.bare_found}
use Rattle.yaml_docs.{proofs.DocumentSteps.bare_missing, specs.{Sections.read_as, declared.documents.Section.TheVariants.Bare}}
use Rattle.yaml_docs.proofs.documents.bare_end.Goals as goal

pub returns-in_err-end-clause-none : goal.returns-in_err-end-clause-none
returns-in_err-end-clause-none c =
    let text = c.args.text.now in
    let at = c.args.at in
    fault_passed c.from_residual-in_err-end.result c.in_err-end.field-0.0
    (document_node_at (line_starts text at) (rest text at) ≡ None) (read_as Bare (rest text at) ≡ None)
    (bare_missing text at c.requires.line) c.in_err-end.ensures.missing
    (err_from_is_err_and c.from_residual-in_err-end.result c.from_residual-in_err-end.ensures.1)

pub returns-clause-reads : goal.returns-clause-reads
returns-clause-reads c =
    bare_found c.args.text.now c.args.at c.args.events.now c.push.new.self c.block_node.new.events c.push-2.new.self
    c.in_ok-end.end c.requires.line
    c.in_ok-push.ensures.ok c.in_ok-push-2.ensures.ok c.in_ok-end.ensures.reads
