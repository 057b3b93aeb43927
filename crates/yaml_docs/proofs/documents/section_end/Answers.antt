use Rattle.std.{proofs.Common.{sym, subst}, specs.Prelude.{None, drop, false, ◌≡◌}}
use Rattle.yaml_docs.proofs.Prelude.{rest, all_comments, document_node_at, read_directed, read_explicit, suffix_with, faults_so, ok_so}
use Rattle.yaml_docs.proofs.DocumentSteps.{directed_section, explicit_none, directed_none, explicit_section, suffix_section}
use Rattle.yaml_docs.specs.{Sections.{SectionRead, read_as}, declared.documents.Section.Section, Documents.{DocumentRead, ExplicitRead}}
use Rattle.yaml_docs.specs.Documents.{SuffixRead}
use Rattle.yaml_docs.proofs.documents.section_end.Goals as goal

pub returns-in-Suffix-clause-reads : goal.returns-in-Suffix-clause-reads
returns-in-Suffix-clause-reads c =
    let text = c.args.text.now in
    let at = c.args.at in
    let old = c.args.events.now in
    let new = c.args.events.now in
    ok_so c.suffix_end.result (SuffixRead text at) (SectionRead text at c.args.section old new)
    (λ end r. subst (λ (p : Section). SectionRead text at p old new end) (sym c.in-Suffix.is)
    (suffix_section text at old end r)) c.suffix_end.ensures.reads

pub returns-in-Explicit-clause-reads : goal.returns-in-Explicit-clause-reads
returns-in-Explicit-clause-reads c =
    let text = c.args.text.now in
    let at = c.args.at in
    let old = c.args.events.now in
    let new = c.explicit_end.new.events in
    ok_so c.explicit_end.result (ExplicitRead text at old new) (SectionRead text at c.args.section old new)
    (λ end r. subst (λ (p : Section). SectionRead text at p old new end) (sym c.in-Explicit.is)
    (explicit_section text at old new end r)) c.explicit_end.ensures.reads

pub returns-in-Directed-clause-reads : goal.returns-in-Directed-clause-reads
returns-in-Directed-clause-reads c =
    let text = c.args.text.now in
    let at = c.args.at in
    let old = c.args.events.now in
    let new = c.directed_end.new.events in
    ok_so c.directed_end.result (DocumentRead text at old new) (SectionRead text at c.args.section old new)
    (λ end r. subst (λ (p : Section). SectionRead text at p old new end) (sym c.in-Directed.is)
    (directed_section text at old new end r)) c.directed_end.ensures.reads

pub returns-in-Suffix-clause-none : goal.returns-in-Suffix-clause-none
returns-in-Suffix-clause-none c =
    let text = c.args.text.now in
    let at = c.args.at in
    faults_so c.suffix_end.result (suffix_with (all_comments false (drop 3 (rest text at))) ≡ None)
    (read_as c.args.section (rest text at) ≡ None)
    (λ h. subst (λ (p : Section). read_as p (rest text at) ≡ None) (sym c.in-Suffix.is) (h)) c.suffix_end.ensures.none

pub returns-in-Explicit-clause-none : goal.returns-in-Explicit-clause-none
returns-in-Explicit-clause-none c =
    let text = c.args.text.now in
    let at = c.args.at in
    faults_so c.explicit_end.result (read_explicit document_node_at (rest text at) ≡ None) (read_as c.args.section (rest text at) ≡ None)
    (λ h. subst (λ (p : Section). read_as p (rest text at) ≡ None) (sym c.in-Explicit.is)
    (explicit_none (rest text at) h)) c.explicit_end.ensures.none

pub returns-in-Directed-clause-none : goal.returns-in-Directed-clause-none
returns-in-Directed-clause-none c =
    let text = c.args.text.now in
    let at = c.args.at in
    faults_so c.directed_end.result (read_directed document_node_at (rest text at) ≡ None) (read_as c.args.section (rest text at) ≡ None)
    (λ h. subst (λ (p : Section). read_as p (rest text at) ≡ None) (sym c.in-Directed.is)
    (directed_none (rest text at) h)) c.directed_end.ensures.none
