use Rattle.std.proofs.Common.{sym, ap, ◌∙◌}
use Rattle.conf_session.{proofs.Prelude.{chars, tree_of, text_bytes, tree_of-Text, tree_of-Seq, tree_of-Map, import_as}, specs.Said.as_part}
use Rattle.conf_session.proofs.parts.import_with.Goals as goal

pub returns-in-Text : goal.returns-in-Text
returns-in-Text c =
    let name = chars (text_bytes c.args.name) in
    sym (ap (λ t. as_part (import_as name t)) (ap tree_of c.in-Text.is ∙ tree_of-Text c.in-Text.text))

pub returns-in-Seq : goal.returns-in-Seq
returns-in-Seq c =
    let name = chars (text_bytes c.args.name) in
    sym (ap (λ t. as_part (import_as name t)) (ap tree_of c.in-Seq.is ∙ tree_of-Seq c.in-Seq.field-0))

pub returns-in-Map : goal.returns-in-Map
returns-in-Map c =
    let name = chars (text_bytes c.args.name) in
    sym (ap (λ t. as_part (import_as name t)) (ap tree_of c.in-Map.is ∙ tree_of-Map c.in-Map.field-0))
