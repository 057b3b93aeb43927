use Rattle.std.proofs.Common.{Ok, sym, ap, subst, ◌∙◌, inr, rules}
use Rattle.tree_path.proofs.Prelude.{chars, mapping, tree_of, members_of, tree_of-Text, tree_of-Map, the_lemmas, IfOk-weaker}
use Rattle.tree_path.{proofs.{Places.place_of-pairs, Steps.put-Text}, specs.{Paths.{put, key_in, at_step}, Undoing.PutsBack}}
use Rattle.tree_path.proofs.edit.put.Goals as goal

pub returns-in-Text-clause-refused : goal.returns-in-Text-clause-refused
returns-in-Text-clause-refused c =
    let token = chars c.args.token.now in
    inr (ap (λ r. at_step c.args.step r Ok) (ap (λ t. put t token (tree_of c.args.value))
    (ap tree_of c.in-Text.is ∙ tree_of-Text _) ∙ put-Text _ token _))

pub put_pair-requires : goal.put_pair-requires
put_pair-requires c =
    let token = chars c.args.token.now in
    let seen = ap tree_of c.in-Map.is ∙ tree_of-Map c.in-Map.pairs ∙ ap (λ w. mapping (members_of w.items)) (sym c.in-Map.pairs-is) in
    c.requires ∙ ap (λ t. key_in t token) seen ∙ place_of-pairs _ token

pub returns-in-Map-clause-back : goal.returns-in-Map-clause-back
returns-in-Map-clause-back c =
    let seen = ap tree_of c.in-Map.is ∙ tree_of-Map c.in-Map.pairs ∙ ap (λ w. mapping (members_of w.items)) (sym c.in-Map.pairs-is) in
    let done = IfOk-weaker c.put_pair.result _ _ (λ d h. subst (λ x. PutsBack d x (tree_of c.args.tree.now))
    (sym (tree_of-Map c.put_pair.new.pairs)) (subst (PutsBack d (mapping (members_of c.put_pair.new.pairs.items))) (sym seen) h))
    c.put_pair.ensures.back in
    search (rules, the_lemmas, done)
