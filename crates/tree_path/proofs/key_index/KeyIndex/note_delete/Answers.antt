use Rattle.std.proofs.Common.{sym, subst, ◌∙◌}
use Rattle.tree_path.proofs.{Prelude.tree_of, IndexLemmas.{delete-apart, delete-missing, delete-there, delete-under, has-buckets}}
use Rattle.tree_path.{proofs.StepLaws.none-other, specs.Tables.{Leaves, steps_of}}
use Rattle.tree_path.proofs.key_index.KeyIndex.note_delete.Goals as goal

pub note_removed-requires : goal.note_removed-requires
note_removed-requires c = has-buckets c.args.self.now (tree_of c.args.tree.now) c.requires.index

pub returns-in-Some : goal.returns-in-Some
returns-in-Some c = λ u is.
    let key = c.in-Key.ensures in
    delete-there c.args.self.now c.note_removed.new.self (tree_of c.args.tree.now) u c.args.path.now key.0 c.in-Some.place c.requires.steps
    (sym c.tokens-tokens.ensures ∙ key.1) (sym c.requires.places.last ∙ c.in-Some.is) is c.requires.index
    c.note_removed.ensures.steps c.note_removed.ensures.table

pub returns-in_default : goal.returns-in_default
returns-in_default c = λ u is.
    let key = c.in-Key.ensures in
    delete-missing c.args.self.now (tree_of c.args.tree.now) u c.args.path.now key.0 c.requires.steps
    (sym c.tokens-tokens.ensures ∙ key.1) (sym c.requires.places.last
    ∙ none-other c.args.places.now.last c.in_default.not-Some) is c.requires.index

pub returns-in-Below : goal.returns-in-Below
returns-in-Below c = λ u is.
    let below = c.in-Below.ensures in
    delete-under c.args.self.now (tree_of c.args.tree.now) u c.args.path.now below.0 below.1 below.2 c.requires.steps
    (sym c.tokens-tokens.ensures ∙ below.3) is c.requires.index

pub returns-in-Apart : goal.returns-in-Apart
returns-in-Apart c = λ u is.
    let t = tree_of c.args.tree.now in
    delete-apart c.args.self.now t u c.args.path.now c.requires.steps
    (subst (Leaves t (steps_of c.args.self.now.steps.items)) c.tokens-tokens.ensures c.in-Apart.ensures) is c.requires.index
