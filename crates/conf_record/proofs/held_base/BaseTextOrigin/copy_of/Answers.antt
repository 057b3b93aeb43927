use Rattle.std.proofs.Common.{◌≡◌, string_bytes, option_copied, sym, ap, subst, ◌∙◌}
use Rattle.conf_record.proofs.{Prelude.{IfOk-weaker, lookup, chars, tree_of, is_name, config_named}, BaseCopyLemmas.built_is}
use Rattle.conf_record.{proofs.BaseSpanLemmas.{lookup_named, lookup_some, lookup_none, span_found}, specs.BaseSpans.{bytes_at, entry_bytes}}
use Rattle.conf_record.specs.Documents.{IsBase}
use Rattle.conf_record.proofs.held_base.BaseTextOrigin.copy_of.Goals as goal

pub returns-in_default : goal.returns-in_default
returns-in_default c =
    let bytes = string_bytes c.self.inside.text in
    let spans = c.self.inside.found.spans.entries in
    let es = c.self.inside.held.0.configs in
    let q = c.args.name.now in
    let none = lookup_none bytes (chars q) es (lookup (is_name q) spans)
    (lookup_named q c.utf8.name bytes spans es c.self.invariant.spans) (sym c.get.ensures.value ∙ ap option_copied c.in_default.is) in
    sym none ∙ ap (λ s. config_named s.configs (chars q)) c.self.view_is

pub returns-in-Ok : goal.returns-in-Ok
returns-in-Ok c =
    let bytes = string_bytes c.self.inside.text in
    let spans = c.self.inside.found.spans.entries in
    let s = c.self.inside.held.0 in
    let q = c.args.name.now in
    let name = chars q in
    let span = c.in-Some.span.now in
    let there = lookup_some bytes name s.configs (lookup (is_name q) spans) span
    (lookup_named q c.utf8.name bytes spans s.configs c.self.invariant.spans) (sym c.get.ensures.value ∙ ap option_copied c.in-Some.is) in
    let built = c.in-Ok.ensures in
    let same : entry_bytes name there.0 ≡ entry_bytes name (tree_of c.in-Ok.config) =
    sym (span_found bytes (entry_bytes name there.0) span there.2) ∙ ap (λ bs. bytes_at bs span) (sym c.deref.ensures) ∙ built.written in
    let laws = c.documents_are_read.ensures in
    let is = built_is laws.bases laws.one_base s name there.0 (tree_of c.in-Ok.config) c.self.invariant.kept there.1 built.within same in
    sym is ∙ ap (λ s. config_named s.configs name) c.self.view_is

pub returns-in-Err-OtherForm : goal.returns-in-Err-OtherForm
returns-in-Err-OtherForm c =
    let name = chars c.args.name.now in
    let unique = c.self.inside.held.1.1 in
    IfOk-weaker c.copy_in_base.result _ _ (λ copy is.
    is.2 ∙ ap (λ s. config_named s.configs name)
    (unique is.0 (subst (λ bs. IsBase bs is.0) c.as_bytes.ensures.value is.1) ∙ c.self.view_is)) c.copy_in_base.ensures
