use Rattle.std.proofs.Common.{[], ◌∷◌, ◌++◌, sym, ap, subst, ◌∙◌}
use Rattle.tree_path.proofs.{Prelude.{chars, tree_of}, IndexLemmas.{has-buckets, is-none, set-apart, set-new, set-there, set-under}}
use Rattle.tree_path.{proofs.IndexLemmas.some-there, specs.Tables.{Leaves, steps_of}}
use Rattle.tree_path.proofs.key_index.KeyIndex.note_set.Goals as goal

pub note_new-requires : goal.note_new-requires
note_new-requires c = has-buckets c.args.self.now (tree_of c.args.tree.now) c.requires.index

pub returns-then-is_some : goal.returns-then-is_some
returns-then-is_some c = λ v u is.
    let key = c.in-Key.ensures in
    let there = some-there c.args.places.now.last (sym c.is_some.ensures ∙ c.if-is_some.true) in
    set-there c.args.self.now (tree_of c.args.tree.now) v u c.args.path.now key.0 there.0 c.requires.steps
    (sym c.tokens-tokens.ensures ∙ key.1) (sym c.requires.places.last ∙ there.1) is c.requires.index

pub returns-else-is_some : goal.returns-else-is_some
returns-else-is_some c = λ v u is.
    let key = c.in-Key.ensures in
    let steps = steps_of c.args.self.now.steps.items in
    let named = c.last_of.ensures steps key.0 key.1 in
    set-new c.args.self.now c.note_new.new.self (tree_of c.args.tree.now) v u c.args.path.now (chars c.last_of.result.now) c.requires.steps
    (sym c.tokens-tokens.ensures ∙ key.1 ∙ ap (λ k. steps ++ k ∷ []) (sym named))
    (sym c.requires.places.last ∙ is-none c.args.places.now.last (sym c.is_some.ensures ∙ c.if-is_some.false)) is c.requires.index
    c.note_new.ensures.steps c.note_new.ensures.table

pub returns-in-Below : goal.returns-in-Below
returns-in-Below c = λ v u is.
    let below = c.in-Below.ensures in
    set-under c.args.self.now (tree_of c.args.tree.now) v u c.args.path.now below.0 below.1 below.2 c.requires.steps
    (sym c.tokens-tokens.ensures ∙ below.3) is c.requires.index

pub returns-in-Apart : goal.returns-in-Apart
returns-in-Apart c = λ v u is.
    let t = tree_of c.args.tree.now in
    set-apart c.args.self.now t v u c.args.path.now c.requires.steps
    (subst (Leaves t (steps_of c.args.self.now.steps.items)) c.tokens-tokens.ensures c.in-Apart.ensures) is c.requires.index
