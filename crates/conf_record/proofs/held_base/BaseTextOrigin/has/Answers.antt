use Rattle.std.proofs.Common.{is_some, string_bytes, ap, ◌∙◌}
use Rattle.conf_record.proofs.{Prelude.{lookup, chars, is_name, config_named}, BaseSpanLemmas.{lookup_named, lookup_is_some}}
use Rattle.conf_record.proofs.BaseSpanLemmas.{copied_is_some}
use Rattle.conf_record.proofs.held_base.BaseTextOrigin.has.Goals as goal

pub returns : goal.returns
returns c =
    let bytes = string_bytes c.self.inside.text in
    let spans = c.self.inside.found.spans.entries in
    let es = c.self.inside.held.0.configs in
    let q = c.args.name.now in
    c.is_some.ensures ∙ copied_is_some c.get.result ∙ ap is_some c.get.ensures.value
    ∙ lookup_is_some bytes (chars q) es (lookup (is_name q) spans) (lookup_named q c.utf8.name bytes spans es c.self.invariant.spans)
    ∙ ap (λ s. is_some (config_named s.configs (chars q))) c.self.view_is
