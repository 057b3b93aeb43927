use Rattle.std.proofs.Common.{string_bytes, option_copied, sym, ap, ◌∙◌}
use Rattle.conf_record.proofs.{Prelude.{lookup, chars, byte_len, is_name, entry_named}, BaseSpanLemmas.{lookup_named, lookup_some}}
use Rattle.conf_record.{proofs.BaseSpanLemmas.{lookup_none, span_length, named_length, named_none}, specs.BaseSpans.entry_bytes}
use Rattle.conf_record.proofs.held_base.BaseTextOrigin.length_of.Goals as goal

pub returns-in-Some : goal.returns-in-Some
returns-in-Some c =
    let bytes = string_bytes c.self.inside.text in
    let spans = c.self.inside.found.spans.entries in
    let es = c.self.inside.held.0.configs in
    let q = c.args.name.now in
    let name = chars q in
    let span = c.in-Some.span.now in
    let there = lookup_some bytes name es (lookup (is_name q) spans) span
    (lookup_named q c.utf8.name bytes spans es c.self.invariant.spans) (sym c.get.ensures.value ∙ ap option_copied c.in-Some.is) in
    c.length.ensures ∙ span_length bytes (entry_bytes name there.0) span there.2 ∙ named_length es name there.0 there.1
    ∙ ap (λ s. byte_len (entry_named s.configs name)) c.self.view_is

pub returns-in-None : goal.returns-in-None
returns-in-None c =
    let bytes = string_bytes c.self.inside.text in
    let spans = c.self.inside.found.spans.entries in
    let es = c.self.inside.held.0.configs in
    let q = c.args.name.now in
    let name = chars q in
    let none = lookup_none bytes name es (lookup (is_name q) spans)
    (lookup_named q c.utf8.name bytes spans es c.self.invariant.spans) (sym c.get.ensures.value ∙ ap option_copied c.in-None.is) in
    named_none es name none ∙ ap (λ s. byte_len (entry_named s.configs name)) c.self.view_is
