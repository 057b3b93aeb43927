use Rattle.std.proofs.Common.{string_bytes, ap, ◌∙◌}
use Rattle.conf_record.proofs.{Prelude.{IfOk-weaker, names_of}, BaseSpanLemmas.names_same}
use Rattle.conf_record.proofs.held_base.BaseTextOrigin.all_names.Goals as goal

pub returns : goal.returns
returns c =
    let bytes = string_bytes c.self.inside.text in
    let spans = c.self.inside.found.spans.entries in
    let es = c.self.inside.held.0.configs in
    let same = names_same bytes spans es c.self.invariant.spans ∙ ap (λ s. names_of s.configs) c.self.view_is in
    IfOk-weaker c.names_in.result _ _ (λ names is. is ∙ same) c.names_in.ensures
