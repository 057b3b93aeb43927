use Rattle.std.proofs.Common.{◌≡◌, true, IfSome, sym, ap, subst, ◌∙◌}
use Rattle.tree_path.proofs.{Prelude.{chars, distinct, members_distinct, tree_of, members_of, tree_of-Map}, Places.place_of-pairs}
use Rattle.tree_path.specs.{Paths.key_in, Steps.key_place, Tables.{Lists, ListsIn, keys_of}}
use Rattle.tree_path.proofs.place.key_in_by.Goals as goal

pub returns-in-Map : goal.returns-in-Map
returns-in-Map c =
    let key = chars c.args.key.now in
    let v = c.in-Map.pairs in
    c.key_place_by.ensures ∙ ap (key_place key) c.deref.ensures.value ∙ sym (place_of-pairs v.items key)
    ∙ sym (ap (λ t. key_in t key) (ap tree_of c.in-Map.is ∙ tree_of-Map v))

pub key_place_by-requires-clause-distinct : goal.key_place_by-requires-clause-distinct
key_place_by-requires-clause-distinct c =
    let v = c.in-Map.pairs in
    subst (λ ps. members_distinct (members_of ps) ≡ true) (sym c.deref.ensures.value)
    (ap distinct (sym (ap tree_of c.in-Map.is ∙ tree_of-Map v)) ∙ c.requires.distinct)

pub key_place_by-requires-clause-table : goal.key_place_by-requires-clause-table
key_place_by-requires-clause-table c =
    let v = c.in-Map.pairs in
    subst (λ ps. IfSome c.args.table (λ table. Lists table.now (keys_of (members_of ps)))) (sym c.deref.ensures.value)
    (subst (λ t. IfSome c.args.table (λ table. ListsIn table.now t)) (ap tree_of c.in-Map.is ∙ tree_of-Map v) c.requires.table)
