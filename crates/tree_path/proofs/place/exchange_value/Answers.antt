use Rattle.std.proofs.Common.{Ok, set, ap, ap₂, ◌∙◌, sym, rules}
use Rattle.tree_path.proofs.{Prelude.{mapping, tree_of, members_of}, Steps.{child-Map, put-Map, place-within}, Ways.key-placed}
use Rattle.tree_path.proofs.place.exchange_value.Goals as goal

pub index_mut-requires : goal.index_mut-requires
index_mut-requires c =
    let v = c.args.pairs.now in
    let h = place-within v.items c.requires.0 c.args.place (key-placed v.items c.requires.0 c.args.place c.requires.1) in
    search rules

pub returns-clause-taken : goal.returns-clause-taken
returns-clause-taken c = λ token is.
    let v = c.args.pairs.now in
    child-Map v.items token c.args.place c.index_mut.result.now (key-placed v.items token c.args.place is)
    ∙ ap (λ x. Ok (tree_of x.1)) (sym c.index_mut.ensures.value) ∙ ap (λ x. Ok (tree_of x)) (sym c.swap.ensures.y_after)

pub returns-clause-put_there : goal.returns-clause-put_there
returns-clause-put_there c = λ token is.
    let v = c.args.pairs.now in
    let p = put-Map v.items token c.args.place c.args.other.now c.index_mut.result.now (key-placed v.items token c.args.place is) in
    p ∙ ap (λ x. Ok (mapping (members_of (set v.items c.args.place x))))
    (ap₂ (λ k t. (k, t)) (ap (λ q. q.0) (sym c.index_mut.ensures.value)) (sym c.swap.ensures.x_after))
