use Rattle.std.proofs.Common.{Ok, rules, ap, ◌∙◌, sym}
use Rattle.tree_path.proofs.Prelude.{IfOk-weaker, on_ok_weaker, chars, mapping, tree_of, members_of, the_lemmas, tree_of-Text, tree_of-Map}
use Rattle.tree_path.{proofs.{Places.place_of-pairs, Steps.cut-Text}, specs.Paths.{child, cut, key_in}}
use Rattle.tree_path.proofs.edit.cut.Goals as goal

pub returns-in-Text-clause-missed : goal.returns-in-Text-clause-missed
returns-in-Text-clause-missed c =
    let token = chars c.args.token.now in
    ap (λ t. cut t token) (ap tree_of c.in-Text.is ∙ tree_of-Text _) ∙ cut-Text _ token

pub returns-in-Map-clause-ok : goal.returns-in-Map-clause-ok
returns-in-Map-clause-ok c =
    let token = chars c.args.token.now in
    let seen = ap tree_of c.in-Map.is ∙ tree_of-Map c.in-Map.pairs ∙ ap (λ w. mapping (members_of w.items)) (sym c.in-Map.pairs-is) in
    let done = on_ok_weaker c.cut_pair.result (λ h. ap (λ t. cut t token) seen ∙ h
    ∙ ap Ok (sym (tree_of-Map c.cut_pair.new.pairs))) c.cut_pair.ensures.ok in
    search (rules, the_lemmas, done)

pub returns-in-Map-clause-removed : goal.returns-in-Map-clause-removed
returns-in-Map-clause-removed c =
    let token = chars c.args.token.now in
    let seen = ap tree_of c.in-Map.is ∙ tree_of-Map c.in-Map.pairs ∙ ap (λ w. mapping (members_of w.items)) (sym c.in-Map.pairs-is) in
    IfOk-weaker c.cut_pair.result _ _ (λ x h. ap (λ t. child t token) seen ∙ h) c.cut_pair.ensures.removed

pub cut_pair-requires : goal.cut_pair-requires
cut_pair-requires c =
    let token = chars c.args.token.now in
    let seen = ap tree_of c.in-Map.is ∙ tree_of-Map c.in-Map.pairs ∙ ap (λ w. mapping (members_of w.items)) (sym c.in-Map.pairs-is) in
    c.requires ∙ ap (λ t. key_in t token) seen ∙ place_of-pairs _ token
