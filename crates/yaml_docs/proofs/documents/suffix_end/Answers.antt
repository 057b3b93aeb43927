use Rattle.yaml_docs.proofs.{Prelude.rest, DocumentSteps.{dots_there, no_suffix, suffix_is}}
use Rattle.yaml_docs.proofs.documents.suffix_end.Goals as goal

pub line_after-requires : goal.line_after-requires
line_after-requires c = (dots_there c.args.text.now c.args.at c.utf8.text c.requires.at c.requires.mark).boundary

pub returns-in_default-clause-none : goal.returns-in_default-clause-none
returns-in_default-clause-none c =
    let there = dots_there c.args.text.now c.args.at c.utf8.text c.requires.at c.requires.mark in
    no_suffix (rest c.args.text.now c.args.at) _ there.leaves c.in_default.ensures.none

pub returns-clause-reads : goal.returns-clause-reads
returns-clause-reads c =
    let there = dots_there c.args.text.now c.args.at c.utf8.text c.requires.at c.requires.mark in
    let line = c.in-Some.ensures.found in
    record {
      boundary = line.boundary;
      starts = c.in-Some.ensures.starts;
      comments = _;
      reads = suffix_is (rest c.args.text.now c.args.at) _ _ there.leaves c.in-Some.ensures.closes line.leaves;
    }
