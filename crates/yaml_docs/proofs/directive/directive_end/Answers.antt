use Rattle.std.specs.Prelude.{false, true, ◌≡◌}
use Rattle.yaml_docs.proofs.{Prelude.{rest, all_comments, closes_line, none_so, IsLineStart, IsSolidLine}, DirectiveSteps.directive_there}
use Rattle.yaml_docs.{proofs.DirectiveSteps.{none_open, some_by_three}, specs.Directives.{IsDirective, NoDirective}}
use Rattle.yaml_docs.proofs.directive.directive_end.Goals as goal

pub returns-clause-found : goal.returns-clause-found
returns-clause-found c =
    let text = c.args.text.now in
    let version = c.in-Some.version in
    some_by_three c.line_after.result (IsSolidLine false text version) (λ line. IsLineStart text line.start)
    (λ line. closes_line (all_comments false (rest text version)) ≡ true)
    (IsDirective text c.args.at) (λ line solid starts closes.
    directive_there text c.args.at version line c.utf8.text c.requires c.in-Some.ensures.found solid starts closes)
    c.line_after.ensures.found c.line_after.ensures.starts c.line_after.ensures.closes

pub returns-clause-none : goal.returns-clause-none
returns-clause-none c =
    let text = c.args.text.now in
    let version = c.in-Some.version in
    none_so c.line_after.result (closes_line (all_comments false (rest text version)) ≡ false) (NoDirective (rest text c.args.at))
    (none_open text c.args.at version c.in-Some.ensures.found) c.line_after.ensures.none
