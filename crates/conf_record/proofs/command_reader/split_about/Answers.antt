use Rattle.std.proofs.Common.{◌≡◌, ◌++◌, List, [], ◌∷◌, Some, true, false, refl, sym, ap, ◌∙◌}
use Rattle.conf_record.proofs.{AboutLemmas.{about-last, pairs-last, without-last}, Prelude.{Pair, Text, chars, members_of, text_bytes}}
use Rattle.conf_record.{proofs.Prelude.tree_of, specs.{Records.with_last, RecordsRead.{about_in, is_about, without_about}}}
use Rattle.yaml_data.specs.declared.tree.Tree.{Tree as CodeTree}
use Rattle.conf_record.proofs.command_reader.split_about.Goals as goal

-- the pairs as members, of which the last is known
joined : (all before : List Pair) (key : Text) (tree : CodeTree) → all ≡ before ++ (key, tree) ∷ []
    → members_of all ≡ with_last (members_of before) (chars (text_bytes key)) (tree_of tree)
joined all before key tree e = ap members_of e ∙ pairs-last before (key, tree) (chars (text_bytes key)) (tree_of tree) refl

pub returns-in-Ok-clause-rest : goal.returns-in-Ok-clause-rest
returns-in-Ok-clause-rest c =
    let before = c.pop.new.self.items in
    let t = tree_of c.in-Some.tree in
    let told = ap (λ bs. is_about (chars bs) t) (sym c.deref.ensures) ∙ c.in-Ok.ensures.about.1 in
    sym (ap without_about (joined c.args.pairs.items before c.in-Some.key c.in-Some.tree c.in-Some.ensures.items)
    ∙ without-last (members_of before) (chars (text_bytes c.in-Some.key)) t true told)

pub returns-in-Ok-clause-about : goal.returns-in-Ok-clause-about
returns-in-Ok-clause-about c =
    let before = c.pop.new.self.items in
    let t = tree_of c.in-Some.tree in
    let told = ap (λ bs. is_about (chars bs) t) (sym c.deref.ensures) ∙ c.in-Ok.ensures.about.1 in
    ap (λ x. Some (tree_of x)) c.in-Ok.ensures.about.0
    ∙ sym (ap about_in (joined c.args.pairs.items before c.in-Some.key c.in-Some.tree c.in-Some.ensures.items)
    ∙ about-last (members_of before) (chars (text_bytes c.in-Some.key)) t true told)

pub returns-in_ok-push-in-Err-clause-rest : goal.returns-in_ok-push-in-Err-clause-rest
returns-in_ok-push-in-Err-clause-rest c =
    let before = c.pop.new.self.items in
    let key = chars (text_bytes c.in-Some.key) in
    let t = tree_of c.in-Some.tree in
    let told = ap (λ bs. is_about (chars bs) t) (sym c.deref.ensures) ∙ c.in-Err.ensures.other.1 in
    joined c.push.new.self.items before c.in-Some.key c.in-Err.tree c.in_ok-push-in-Err.ensures.items
    ∙ ap (λ x. with_last (members_of before) key (tree_of x)) c.in-Err.ensures.other.0
    ∙ sym (ap without_about (joined c.args.pairs.items before c.in-Some.key c.in-Some.tree c.in-Some.ensures.items)
    ∙ without-last (members_of before) key t false told)

pub returns-in_ok-push-in-Err-clause-about : goal.returns-in_ok-push-in-Err-clause-about
returns-in_ok-push-in-Err-clause-about c =
    let before = c.pop.new.self.items in
    let t = tree_of c.in-Some.tree in
    let told = ap (λ bs. is_about (chars bs) t) (sym c.deref.ensures) ∙ c.in-Err.ensures.other.1 in
    sym (ap about_in (joined c.args.pairs.items before c.in-Some.key c.in-Some.tree c.in-Some.ensures.items)
    ∙ about-last (members_of before) (chars (text_bytes c.in-Some.key)) t false told)
