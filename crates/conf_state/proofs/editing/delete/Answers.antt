use Rattle.std.proofs.Common.{◌≡◌, ◌<◌, if◌then◌else◌, Err, true, false, is_some, length, ap, sym, subst, ◌∙◌}
use Rattle.conf_state.proofs.{Prelude.chars, EditLemmas.{empty-pointer, delete-edits}, StepLemmas.{edited-named, some_bytes, no_bytes}}
use Rattle.conf_state.{proofs.StepLemmas.{delete-nothing, delete-whole}, specs.{Edits.absence, Names.good_name, States.config_named}}
use Rattle.conf_state.specs.{declared.fault.StoreFault.TheVariants.BadName, Commands.{text_of, delete_at}}
use Rattle.conf_state.proofs.editing.delete.Goals as goal

pub returns-then-not-is_empty : goal.returns-then-not-is_empty
returns-then-not-is_empty g c =
    let e = g.E.Editor in
    let editor = c.args.editor.now in
    let old = c.args.target.now in
    let some : 0 < length c.args.path.now = some_bytes
    (length c.args.path.now) c.is_empty.result c.is_empty.ensures c.if-not-is_empty.true in
    let name = text_of c.args.name in
    subst (λ made. e.Ends editor old made c.edit.result c.edit.new.target)
    (ap (λ made. if good_name name then made else Err BadName)
    (sym (delete-edits (e.configs editor old) name c.args.path.now c.utf8.path some))) c.edit.ensures

pub returns-then-not-has : goal.returns-then-not-has
returns-then-not-has g c =
    let e = g.E.Editor in
    let editor = c.args.editor.now in
    let old = c.args.target.now in
    let es = e.configs editor old in
    let none : is_some (config_named es (text_of c.args.name)) ≡ false =
    ap (λ bs. is_some (config_named es (chars bs))) (sym c.deref.ensures) ∙ sym c.has.ensures.found ∙ c.if-not-has.true in
    let why : c.absence.result ≡ absence (text_of c.args.name) =
    c.absence.ensures ∙ ap (λ bs. absence (chars bs)) c.deref-then-not-has.ensures in
    subst (λ made. e.Ends editor old made (Err c.absence.result) old)
    (sym (delete-nothing es (text_of c.args.name) (chars c.args.path.now) none ∙ ap Err (sym why)))
    (g.met.E.Editor.refused editor old c.absence.result)

pub returns : goal.returns
returns g c =
    let e = g.E.Editor in
    let editor = c.args.editor.now in
    let old = c.args.target.now in
    let es = e.configs editor old in
    let empty = empty-pointer c.args.path.now (no_bytes
    (length c.args.path.now) c.is_empty.result c.is_empty.ensures c.if-not-is_empty.false) in
    let there : is_some (config_named es (text_of c.args.name)) ≡ true =
    ap (λ bs. is_some (config_named es (chars bs))) (sym c.deref.ensures) ∙ sym c.has.ensures.found ∙ c.if-not-has.false in
    let named = ap (λ bs. good_name (chars bs)) (sym c.deref.ensures) ∙ c.has.ensures.named c.if-not-has.false in
    subst (λ made. e.Ends editor old made c.remove.result c.remove.new.target)
    (sym (edited-named es (delete_at (text_of c.args.name) (chars c.args.path.now)) named
    ∙ delete-whole es (text_of c.args.name) (chars c.args.path.now) empty there)) c.remove.ensures
