-- The line ends at the next break, or it is the last one.
use Rattle.std.proofs.Common.{◌≡◌, slice_range}
use Rattle.yaml_style.proofs.{Prelude.IsCharBoundary-start, SplitLemmas.{is_split, is_last}}
use Rattle.yaml_style.proofs.lines.split_line.Goals as goal

pub next_break-requires : goal.next_break-requires
next_break-requires c = IsCharBoundary-start c.args.text.now c.utf8.text

pub returns-in_default-clause-cut : goal.returns-in_default-clause-cut
returns-in_default-clause-cut c = (is_last c.args.text.now c.utf8.text c.in_default.ensures.last_line c.requires).cut

pub returns-in_default-clause-content : goal.returns-in_default-clause-content
returns-in_default-clause-content c = (is_last c.args.text.now c.utf8.text c.in_default.ensures.last_line c.requires).content

pub returns-in_default-clause-ending : goal.returns-in_default-clause-ending
returns-in_default-clause-ending c = (is_last c.args.text.now c.utf8.text c.in_default.ensures.last_line c.requires).ending

pub returns-clause-cut : goal.returns-clause-cut
returns-clause-cut c =
    let prefix : c.range.result.now ≡ slice_range c.args.text.now 0 c.in-Some.start = c.range.ensures.value in
    let split = is_split c.args.text.now c.in-Some.start c.in-Some.len c.utf8.text c.in-Some.ensures.line in
    rw (prefix, c.range-2.ensures.value, c.range_from.ensures.value) split.line.cut

pub returns-clause-content : goal.returns-clause-content
returns-clause-content c =
    let prefix : c.range.result.now ≡ slice_range c.args.text.now 0 c.in-Some.start = c.range.ensures.value in
    let split = is_split c.args.text.now c.in-Some.start c.in-Some.len c.utf8.text c.in-Some.ensures.line in
    rw (prefix, c.range-2.ensures.value) split.line.content

pub returns-clause-ending : goal.returns-clause-ending
returns-clause-ending c =
    let prefix : c.range.result.now ≡ slice_range c.args.text.now 0 c.in-Some.start = c.range.ensures.value in
    let split = is_split c.args.text.now c.in-Some.start c.in-Some.len c.utf8.text c.in-Some.ensures.line in
    rw (prefix, c.range-2.ensures.value) split.line.ending
