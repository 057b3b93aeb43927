use Rattle.std.proofs.Common.{◌≡◌, ℕ, List, Option, Vec, Global, refl, Ok, Err, ap, ◌∙◌, sym, rules}
use Rattle.tree_path.proofs.Prelude.{err_from_is_err_and, chars, Pair, tree_of, tree_of-Text, tree_of-Seq, tree_of-Map}
use Rattle.tree_path.proofs.{Places.place_of-pairs, Steps.{child-Text, child-Seq, child-Seq-missed, child-Map, child-Map-missed}}
use Rattle.tree_path.{proofs.Steps.{index-counted, place-within, place-found, place-missed}, specs.{Paths.{child, key_in}, Steps.key_place}}
use Rattle.yaml_data.specs.declared.tree.Tree.{Tree, TheVariants.Map}
use Rattle.tree_path.proofs.place.child_at.Goals as goal

-- the known place, among the pairs of a mapping
known : (place : Option ℕ) (token : List ℕ) (tree : Tree) (v : Vec Pair Global) → tree ≡ Map v
    → place ≡ key_in (tree_of tree) token → place ≡ key_place token v.items
known place token tree v is there = there ∙ ap (λ t. key_in t token) (ap tree_of is ∙ tree_of-Map v) ∙ place_of-pairs v.items token

pub returns-in_err-index-in-Seq-clause-missed : goal.returns-in_err-index-in-Seq-clause-missed
returns-in_err-index-in-Seq-clause-missed c =
    let p = err_from_is_err_and c.from_residual.result c.from_residual.ensures.1 in
    let v = c.in-Seq.items in
    let token = chars c.args.token.now in
    rw (p.1, p.2)
    (ap (λ t. child t token) (ap tree_of c.in-Seq.is ∙ tree_of-Seq v)
    ∙ child-Seq-missed v.items token c.in_err-index-in-Seq.field-0.0
    (index-counted v token c.len.result _ c.len.ensures c.in_err-index-in-Seq.ensures))

pub returns-in_err-place-in-Map-clause-missed : goal.returns-in_err-place-in-Map-clause-missed
returns-in_err-place-in-Map-clause-missed c =
    let p = err_from_is_err_and c.from_residual-in_err-place-in-Map.result c.from_residual-in_err-place-in-Map.ensures.1 in
    let v = c.in-Map.pairs in
    let token = chars c.args.token.now in
    let m = place-missed c.args.place token v.items v.items c.in_err-place-in-Map.field-0.0 c.in_err-place-in-Map.ensures.value
    (known c.args.place token c.args.tree.now v c.in-Map.is c.requires) refl in
    rw (p.1, p.2)
    (ap (λ t. child t token) (ap tree_of c.in-Map.is ∙ tree_of-Map v) ∙ child-Map-missed v.items token m.0 ∙ ap Err m.1)

pub index-requires-in-Map : goal.index-requires-in-Map
index-requires-in-Map c =
    let v = c.in-Map.pairs in
    let token = chars c.args.token.now in
    let m = place-found c.args.place token v.items v.items c.in_ok-place-in-Map.place c.in_ok-place-in-Map.ensures.value
    (known c.args.place token c.args.tree.now v c.in-Map.is c.requires) refl in
    let h = place-within v.items token c.in_ok-place-in-Map.place m in
    search rules

pub returns-in_ok-index-in-Seq-clause-ok : goal.returns-in_ok-index-in-Seq-clause-ok
returns-in_ok-index-in-Seq-clause-ok c =
    let v = c.in-Seq.items in
    let token = chars c.args.token.now in
    ap (λ t. child t token) (ap tree_of c.in-Seq.is ∙ tree_of-Seq v)
    ∙ (child-Seq v.items token c.in_ok-index-in-Seq.index c.index.result.now
    (index-counted v token c.len.result _ c.len.ensures c.in_ok-index-in-Seq.ensures)).1
    ∙ ap (λ x. Ok (tree_of x)) (sym c.index.ensures)

pub returns-in_ok-place-in-Map-clause-ok : goal.returns-in_ok-place-in-Map-clause-ok
returns-in_ok-place-in-Map-clause-ok c =
    let v = c.in-Map.pairs in
    let token = chars c.args.token.now in
    let m = place-found c.args.place token v.items v.items c.in_ok-place-in-Map.place c.in_ok-place-in-Map.ensures.value
    (known c.args.place token c.args.tree.now v c.in-Map.is c.requires) refl in
    ap (λ t. child t token) (ap tree_of c.in-Map.is ∙ tree_of-Map v)
    ∙ child-Map v.items token c.in_ok-place-in-Map.place c.index-in-Map.result.now m
    ∙ ap (λ x. Ok (tree_of x.1)) (sym c.index-in-Map.ensures)

pub returns-in-Text-clause-missed : goal.returns-in-Text-clause-missed
returns-in-Text-clause-missed c =
    let token = chars c.args.token.now in
    ap (λ t. child t token) (ap tree_of c.in-Text.is ∙ tree_of-Text _) ∙ child-Text _ token
