use Rattle.std.proofs.Common.{Ok, Err, refl, ap, ◌∙◌, sym, rules}
use Rattle.tree_path.proofs.{Prelude.{err_from_is_err_and, chars, mapping, tree_of, members_of}, Steps.{child-Map, cut-Map, cut-Map-missed}}
use Rattle.tree_path.proofs.Steps.{place-within, place-found, place-missed}
use Rattle.tree_path.proofs.edit.cut_pair.Goals as goal

pub returns-in_err-place-clause-missed : goal.returns-in_err-place-clause-missed
returns-in_err-place-clause-missed c =
    let p = err_from_is_err_and c.from_residual.result c.from_residual.ensures.1 in
    let v = c.args.pairs.now in
    let token = chars c.args.key.now in
    let m = place-missed c.args.place token v.items v.items c.in_err-place.field-0.0 c.in_err-place.ensures.value
    c.requires refl in
    rw (p.1, p.2) (cut-Map-missed v.items token m.0 ∙ ap Err m.1)

pub remove-requires : goal.remove-requires
remove-requires c =
    let v = c.args.pairs.now in
    let token = chars c.args.key.now in
    let h = place-within v.items token c.in_ok-place.place
    (place-found c.args.place token v.items v.items c.in_ok-place.place c.in_ok-place.ensures.value c.requires refl) in
    search rules

pub returns-clause-ok : goal.returns-clause-ok
returns-clause-ok c =
    let v = c.args.pairs.now in
    let token = chars c.args.key.now in
    cut-Map v.items token c.in_ok-place.place
    (place-found c.args.place token v.items v.items c.in_ok-place.place c.in_ok-place.ensures.value c.requires refl)
    ∙ ap (λ xs. Ok (mapping (members_of xs))) (sym c.remove.ensures.items)

pub returns-clause-removed : goal.returns-clause-removed
returns-clause-removed c =
    let v = c.args.pairs.now in
    let token = chars c.args.key.now in
    child-Map v.items token c.in_ok-place.place c.remove.result
    (place-found c.args.place token v.items v.items c.in_ok-place.place c.in_ok-place.ensures.value c.requires refl)
    ∙ ap (λ x. Ok (tree_of x.1)) (sym c.remove.ensures.value)
