use Rattle.std.proofs.Common.{Ok, ap, ◌∙◌, sym}
use Rattle.tree_path.proofs.{Prelude.{err_from_is_err_and, chars, sequence, tree_of, elements_of}, Steps.{child-Seq, cut-Seq}}
use Rattle.tree_path.proofs.Steps.{cut-Seq-missed, index-counted}
use Rattle.tree_path.proofs.edit.cut_element.Goals as goal

pub returns-in_err-index-clause-missed : goal.returns-in_err-index-clause-missed
returns-in_err-index-clause-missed c =
    let p = err_from_is_err_and c.from_residual.result c.from_residual.ensures.1 in
    let v = c.args.items.now in
    let token = chars c.args.token.now in
    rw (p.1, p.2) (cut-Seq-missed v.items token c.in_err-index.field-0.0
    (index-counted v token c.len.result _ c.len.ensures c.in_err-index.ensures))

pub returns-clause-ok : goal.returns-clause-ok
returns-clause-ok c =
    let v = c.args.items.now in
    let token = chars c.args.token.now in
    cut-Seq v.items token c.in_ok-index.index (index-counted v token c.len.result _ c.len.ensures c.in_ok-index.ensures)
    ∙ ap (λ xs. Ok (sequence (elements_of xs))) (sym c.remove.ensures.items)

pub returns-clause-removed : goal.returns-clause-removed
returns-clause-removed c =
    let v = c.args.items.now in
    let token = chars c.args.token.now in
    (child-Seq v.items token c.in_ok-index.index c.remove.result
    (index-counted v token c.len.result _ c.len.ensures c.in_ok-index.ensures)).1
    ∙ ap (λ x. Ok (tree_of x)) (sym c.remove.ensures.value)
