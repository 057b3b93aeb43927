use Rattle.std.{proofs.Common.{arith, length, subst, sym, ◌<◌, ◌∙◌, ◌≡◌}, specs.Prelude.{Bool, None, true}}
use Rattle.yaml_docs.proofs.{Prelude.{chars, err_from_is_err_and, rest, section_at, fault_passed}, DocumentSteps.some_left}
use Rattle.yaml_docs.proofs.StreamSteps.{SectionPassed, lines_passed, no_meaning, section_passed, starts_here, text_ends}
use Rattle.yaml_docs.specs.Sections.{ReadUpTo, read_as, stream_meaning}
use Rattle.yaml_docs.proofs.documents.stream.Goals as goal

pub returns-then-line-text-clause-found : goal.returns-then-line-text-clause-found
returns-then-line-text-clause-found c =
    let text = c.args.text.now in
    let line = c.solid_line-line.result in
    let read : ReadUpTo text c.sections.opened line.start c.sections.events =
    lines_passed text c.sections.opened c.sections.at c.sections.events line c.utf8.text c.sections.invariant
    c.solid_line-line.ensures.found (c.solid_line-line.ensures.starts c.sections.invariant.starts) in
    text_ends text c.sections.opened line.start c.sections.events read (omega arith)

pub returns-in_err-section-clause-none : goal.returns-in_err-section-clause-none
returns-in_err-section-clause-none c =
    let text = c.args.text.now in
    let line = c.solid_line-line.result in
    let found = c.solid_line-line.ensures.found in
    let read : ReadUpTo text c.sections.opened line.start c.sections.events =
    lines_passed text c.sections.opened c.sections.at c.sections.events line c.utf8.text c.sections.invariant found
    (c.solid_line-line.ensures.starts c.sections.invariant.starts) in
    let before : line.start < length text = omega (arith, found.boundary.0) in
    fault_passed c.from_residual.result c.in_err-section.field-0.0
    (section_at c.sections.opened true (rest text line.start) ≡ None) (stream_meaning (chars text) ≡ None)
    (no_meaning text c.sections.opened line.start c.sections.events read
    (some_left text line.start c.utf8.text found.boundary before)) c.in_err-section.ensures.none
    (err_from_is_err_and c.from_residual.result c.from_residual.ensures.1)

pub section_end-requires-clause-line : goal.section_end-requires-clause-line
section_end-requires-clause-line c =
    let text = c.args.text.now in
    let line = c.solid_line-line.result in
    let found = c.solid_line-line.ensures.found in
    let before : line.start < length text = omega (arith, found.boundary.0) in
    starts_here text line.start (c.solid_line-line.ensures.starts c.sections.invariant.starts)
    (some_left text line.start c.utf8.text found.boundary before)

pub returns-in_err-at-clause-none : goal.returns-in_err-at-clause-none
returns-in_err-at-clause-none c =
    let text = c.args.text.now in
    let line = c.solid_line-line.result in
    let found = c.solid_line-line.ensures.found in
    let read : ReadUpTo text c.sections.opened line.start c.sections.events =
    lines_passed text c.sections.opened c.sections.at c.sections.events line c.utf8.text c.sections.invariant found
    (c.solid_line-line.ensures.starts c.sections.invariant.starts) in
    let before : line.start < length text = omega (arith, found.boundary.0) in
    fault_passed c.from_residual-in_err-at.result c.in_err-at.field-0.0
    (read_as c.in_ok-section.section (rest text line.start) ≡ None) (stream_meaning (chars text) ≡ None)
    (λ h. no_meaning text c.sections.opened line.start c.sections.events read
    (some_left text line.start c.utf8.text found.boundary before) (c.in_ok-section.ensures.found.reads ∙ h))
    c.in_err-at.ensures.none (err_from_is_err_and c.from_residual-in_err-at.result c.from_residual-in_err-at.ensures.1)

passed : (c : goal.After-ends_document-opened)
    → SectionPassed c.args.text.now c.solid_line-line.result.start c.in_ok-section.section c.in_ok-at.at c.section_end.new.events
passed c =
    let text = c.args.text.now in
    let line = c.solid_line-line.result in
    let found = c.solid_line-line.ensures.found in
    let read : ReadUpTo text c.sections.opened line.start c.sections.events =
    lines_passed text c.sections.opened c.sections.at c.sections.events line c.utf8.text c.sections.invariant found
    (c.solid_line-line.ensures.starts c.sections.invariant.starts) in
    let before : line.start < length text = omega (arith, found.boundary.0) in
    section_passed text c.sections.opened line.start c.in_ok-section.section c.sections.events
    c.section_end.new.events c.in_ok-at.at c.utf8.text read
    (some_left text line.start c.utf8.text found.boundary before) c.in_ok-section.ensures.found c.in_ok-at.ensures.reads

pub sections-smaller : goal.sections-smaller
sections-smaller c =
    let onward = (passed c).onward in
    omega (arith, onward, c.solid_line-line.ensures.found.above, c.in_ok-at.ensures.reads.boundary.0)

pub sections-preserved : goal.sections-preserved
sections-preserved c = subst (λ (o : Bool). ReadUpTo c.args.text.now o c.in_ok-at.at c.section_end.new.events)
    (sym c.ends_document-opened.ensures) (passed c).read
