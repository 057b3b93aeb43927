use Rattle.std.proofs.Common.{ap, sym, ◌∙◌}
use Rattle.tree_path.{proofs.{Prelude.{chars, tree_of, tree_of-Map}, Places.place_of-pairs}, specs.{Paths.key_in, Steps.key_place}}
use Rattle.tree_path.proofs.place.key_in.Goals as goal

pub returns-in-Map : goal.returns-in-Map
returns-in-Map c =
    let key = chars c.args.key.now in
    let v = c.in-Map.pairs in
    c.key_place.ensures ∙ ap (key_place key) c.deref.ensures.value ∙ sym (place_of-pairs v.items key)
    ∙ sym (ap (λ t. key_in t key) (ap tree_of c.in-Map.is ∙ tree_of-Map v))
