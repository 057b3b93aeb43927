use Rattle.std.proofs.Common.{sym, ◌∙◌}
use Rattle.yaml_docs.proofs.{Prelude.rest, SectionCases.{at_bare, at_directed, at_explicit, at_suffix, not_opened}}
use Rattle.yaml_docs.proofs.documents.section_at.Goals as goal

pub returns-then-is_marker_of-clause-found : goal.returns-then-is_marker_of-clause-found
returns-then-is_marker_of-clause-found c =
    at_suffix c.args.opened (rest c.args.text.now c.args.line.start) c.requires.solid (sym c.is_marker_of.ensures ∙ c.if-is_marker_of.true)

pub returns-then-is_marker_of-2-clause-found : goal.returns-then-is_marker_of-2-clause-found
returns-then-is_marker_of-2-clause-found c =
    at_explicit c.args.opened (rest c.args.text.now c.args.line.start) c.requires.solid
    (sym c.is_marker_of.ensures ∙ c.if-is_marker_of.false)
    (sym c.is_marker_of-2.ensures ∙ c.if-is_marker_of-2.true)

pub returns-then-not-opened-clause-none : goal.returns-then-not-opened-clause-none
returns-then-not-opened-clause-none c =
    not_opened c.args.opened (rest c.args.text.now c.args.line.start) c.if-not-opened.true c.requires.solid
    (sym c.is_marker_of.ensures ∙ c.if-is_marker_of.false) (sym c.is_marker_of-2.ensures ∙ c.if-is_marker_of-2.false)

pub returns-then-stands_at-clause-found : goal.returns-then-stands_at-clause-found
returns-then-stands_at-clause-found c =
    at_directed c.args.opened (rest c.args.text.now c.args.line.start) c.if-not-opened.false c.requires.solid
    (sym c.is_marker_of.ensures ∙ c.if-is_marker_of.false) (sym c.is_marker_of-2.ensures ∙ c.if-is_marker_of-2.false)
    (sym c.stands_at.ensures ∙ c.if-stands_at.true)

pub returns-clause-found : goal.returns-clause-found
returns-clause-found c =
    at_bare c.args.opened (rest c.args.text.now c.args.line.start) c.if-not-opened.false c.requires.solid
    (sym c.is_marker_of.ensures ∙ c.if-is_marker_of.false) (sym c.is_marker_of-2.ensures ∙ c.if-is_marker_of-2.false)
    (sym c.stands_at.ensures ∙ c.if-stands_at.false)
