use Rattle.std.proofs.Common.{sym, ap, ◌∙◌}
use Rattle.tree_path.proofs.{Prelude.{chars, tree_of, tree_of-Text, tree_of-Seq, tree_of-Map}, Steps.index-counted, Ways.ok_or-present}
use Rattle.tree_path.{proofs.Ways.{step_place-Text, step_place-Seq, step_place-Map}, specs.{Paths.present, Steps.{key_place, step_place}}}
use Rattle.tree_path.proofs.place.step_place.Goals as goal

pub returns-in-Text : goal.returns-in-Text
returns-in-Text c =
    let token = chars c.args.token.now in
    sym (ap (λ t. step_place t token) (ap tree_of c.in-Text.is ∙ tree_of-Text _) ∙ step_place-Text _ token)

pub returns-in-Seq : goal.returns-in-Seq
returns-in-Seq c =
    let token = chars c.args.token.now in
    let v = c.in-Seq.items in
    sym (ap (λ t. step_place t token) (ap tree_of c.in-Seq.is ∙ tree_of-Seq v) ∙ step_place-Seq v.items token
    ∙ index-counted v token c.len.result _ c.len.ensures c.element_index.ensures)

pub returns-in-Map : goal.returns-in-Map
returns-in-Map c =
    let token = chars c.args.token.now in
    let v = c.in-Map.pairs in
    c.ok_or.ensures.value ∙ ok_or-present c.key_place.result ∙ ap present (c.key_place.ensures ∙ ap (key_place token) c.deref.ensures.value)
    ∙ sym (ap (λ t. step_place t token) (ap tree_of c.in-Map.is ∙ tree_of-Map v) ∙ step_place-Map v.items token)
