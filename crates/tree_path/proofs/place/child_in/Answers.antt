use Rattle.std.proofs.Common.{Ok, sym, ap, ◌∙◌, rules}
use Rattle.tree_path.proofs.{Prelude.{tree_of, tree_of-Text, tree_of-Seq, tree_of-Map}, Steps.{child-Seq, child-Map, place-within}}
use Rattle.tree_path.{proofs.Ways.{no-place, index-placed, key-placed}, specs.{Paths.child, Steps.step_place}}
use Rattle.tree_path.proofs.place.child_in.Goals as goal

pub unreachable-requires : goal.unreachable-requires
unreachable-requires c =
    no-place _ c.requires.0 c.args.place (sym (ap (λ t. step_place t c.requires.0)
    (ap tree_of c.in-Text.is ∙ tree_of-Text _)) ∙ c.requires.1)

pub index-requires : goal.index-requires
index-requires c =
    let v = c.in-Seq.items in
    let seen = ap tree_of c.in-Seq.is ∙ tree_of-Seq v in
    let within = (child-Seq v.items c.requires.0 c.args.place c.args.tree.now
    (index-placed v.items c.requires.0 c.args.place (sym (ap (λ t. step_place t c.requires.0) seen) ∙ c.requires.1))).0 in
    search rules

pub index-requires-in-Map : goal.index-requires-in-Map
index-requires-in-Map c =
    let v = c.in-Map.pairs in
    let seen = ap tree_of c.in-Map.is ∙ tree_of-Map v in
    let within = place-within v.items c.requires.0 c.args.place
    (key-placed v.items c.requires.0 c.args.place (sym (ap (λ t. step_place t c.requires.0) seen) ∙ c.requires.1)) in
    search rules

pub returns-in-Seq : goal.returns-in-Seq
returns-in-Seq c = λ token is.
    let v = c.in-Seq.items in
    let seen = ap tree_of c.in-Seq.is ∙ tree_of-Seq v in
    ap (λ t. child t token) seen
    ∙ (child-Seq v.items token c.args.place c.index.result.now
    (index-placed v.items token c.args.place (sym (ap (λ t. step_place t token) seen) ∙ is))).1
    ∙ ap (λ x. Ok (tree_of x)) (sym c.index.ensures)

pub returns-in-Map : goal.returns-in-Map
returns-in-Map c = λ token is.
    let v = c.in-Map.pairs in
    let seen = ap tree_of c.in-Map.is ∙ tree_of-Map v in
    ap (λ t. child t token) seen
    ∙ child-Map v.items token c.args.place c.index-in-Map.result.now
    (key-placed v.items token c.args.place (sym (ap (λ t. step_place t token) seen) ∙ is))
    ∙ ap (λ x. Ok (tree_of x.1)) (sym c.index-in-Map.ensures)
