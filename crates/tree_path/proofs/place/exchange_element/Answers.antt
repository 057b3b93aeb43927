use Rattle.std.proofs.Common.{Ok, set, ap, ◌∙◌, sym, rules}
use Rattle.tree_path.proofs.{Prelude.{sequence, tree_of, elements_of}, Steps.{child-Seq, put-Seq}, Ways.index-placed}
use Rattle.tree_path.proofs.place.exchange_element.Goals as goal

pub index_mut-requires : goal.index_mut-requires
index_mut-requires c =
    let v = c.args.items.now in
    let within = (child-Seq v.items c.requires.0 c.args.place c.args.other.now
    (index-placed v.items c.requires.0 c.args.place c.requires.1)).0 in
    search rules

pub returns-clause-taken : goal.returns-clause-taken
returns-clause-taken c = λ token is.
    let v = c.args.items.now in
    (child-Seq v.items token c.args.place c.index_mut.result.now (index-placed v.items token c.args.place is)).1
    ∙ ap (λ x. Ok (tree_of x)) (sym c.index_mut.ensures.value ∙ sym c.swap.ensures.y_after)

pub returns-clause-put_there : goal.returns-clause-put_there
returns-clause-put_there c = λ token is.
    let v = c.args.items.now in
    let p = put-Seq v.items token c.args.place c.args.other.now (index-placed v.items token c.args.place is) in
    p ∙ ap (λ x. Ok (sequence (elements_of (set v.items c.args.place x)))) (sym c.swap.ensures.x_after)
