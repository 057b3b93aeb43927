use Rattle.std.proofs.{Common.{◌≡◌, List, [], ◌∷◌, ◌+◌, drop, sym, ap, subst, ◌∙◌, arith}, lemmas.List.{at_drop_more, at_drop_all}}
use Rattle.conf_state.specs.Trails.{AreSets}
use Rattle.conf_state.specs.declared.command.Edit as code_edit
use Rattle.conf_state.proofs.sets.are_sets.Goals as goal

pub loop-edit-preserved : goal.loop-edit-preserved
loop-edit-preserved c = λ rest.
    let edits = c.args.edits.now in
    let i = c.loop-edit.edit-index in
    let item = c.edit-item in
    let here : drop i edits ≡ item.result ∷ drop (i + 1) edits =
    at_drop_more (λ (es : List code_edit.Edit). es) edits i item.result (omega arith)
    ∙ ap (λ e. e ∷ drop (i + 1) edits) (sym item.is) in
    c.loop-edit.invariant (subst AreSets (sym here) (c.is_set.ensures c.if-not-is_set.false, rest))

pub returns : goal.returns
returns c = λ all.
    let edits = c.args.edits.now in
    c.loop-edit.invariant
    (subst AreSets (sym (at_drop_all (λ (es : List code_edit.Edit). es) edits c.loop-edit.edit-index (omega arith))) tt)
