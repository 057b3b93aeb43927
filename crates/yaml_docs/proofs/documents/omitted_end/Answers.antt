use Rattle.std.proofs.Common.{arith, false, length, sym, ◌∙◌, ◌<◌}
use Rattle.yaml_docs.proofs.{Prelude.{rest, rest-end, all_comments}, DocumentSteps.{no_omission, omits_at_end, some_left}}
use Rattle.yaml_docs.proofs.documents.omitted_end.Goals as goal

pub returns-then-line-text-clause-found : goal.returns-then-line-text-clause-found
returns-then-line-text-clause-found c =
    let line = c.in-Some.ensures.found in
    let comments = all_comments false (rest c.args.text.now c.args.at) in
    record {
      boundary = line.boundary;
      starts = c.in-Some.ensures.starts;
      omitted = omits_at_end comments c.in-Some.ensures.closes (line.leaves ∙ rest-end c.args.text.now c.in-Some.line.start (omega arith));
      leaves = line.leaves;
    }

pub returns-then-not-is_marker-clause-none : goal.returns-then-not-is_marker-clause-none
returns-then-not-is_marker-clause-none c =
    let line = c.in-Some.ensures.found in
    let text = c.args.text.now in
    let before : c.in-Some.line.start < length text = omega (arith, line.boundary.0) in
    no_omission (all_comments false (rest text c.args.at)) (rest text c.in-Some.line.start) line.leaves
    (some_left text c.in-Some.line.start c.utf8.text line.boundary before) (sym c.is_marker.ensures ∙ c.if-not-is_marker.true) line.solid
