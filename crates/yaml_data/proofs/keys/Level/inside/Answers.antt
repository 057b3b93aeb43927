use Rattle.std.proofs.Common.{◌&&◌, ap, sym, ◌∙◌}
use Rattle.yaml_data.{proofs.{Prelude.distinct, KeyLemmas.members_distinct-parts, SeenLemmas.tree_of-Map}, specs.Keys.own_keys_differ}
use Rattle.yaml_data.specs.{Keys.values_distinct, Seen.{tree_of, members_of}}
use Rattle.yaml_data.proofs.keys.Level.inside.Goals as goal

pub returns-in-Map-clause-keys : goal.returns-in-Map-clause-keys
returns-in-Map-clause-keys c =
    let pairs = c.in-Map.pairs.items in
    let seen = ap tree_of c.in-Map.is ∙ tree_of-Map c.in-Map.pairs in
    ap distinct seen ∙ members_distinct-parts (members_of pairs)
    ∙ ap (λ t. own_keys_differ t && values_distinct (members_of pairs)) (sym seen)
    ∙ ap (λ ms. own_keys_differ (tree_of c.args.tree.now) && values_distinct (members_of ms)) (sym c.deref-in-Map.ensures.value)
