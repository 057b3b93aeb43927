use Rattle.std.proofs.Common.{◌≡◌, Err, true, false, is_some, length, ap, sym, subst, ◌∙◌}
use Rattle.conf_state.proofs.{Prelude.{chars, tree_of}, EditLemmas.empty-pointer, StepLemmas.{edited-named, no_bytes, set-nothing}}
use Rattle.conf_state.{proofs.StepLemmas.set-whole, specs.{Commands.{text_of, set_at}, Edits.absence, Names.good_name, States.config_named}}
use Rattle.conf_state.proofs.editing.set.Goals as goal

pub returns-then-not-has : goal.returns-then-not-has
returns-then-not-has g c =
    let e = g.E.Editor in
    let editor = c.args.editor.now in
    let old = c.args.target.now in
    let es = e.configs editor old in
    let none : is_some (config_named es (text_of c.args.name)) ≡ false =
    ap (λ bs. is_some (config_named es (chars bs))) (sym c.deref.ensures) ∙ sym c.has.ensures.found ∙ c.if-not-has.true in
    let why : c.absence.result ≡ absence (text_of c.args.name) =
    c.absence.ensures ∙ ap (λ bs. absence (chars bs)) c.deref-then-not-has.ensures in
    subst (λ made. e.Ends editor old made (Err c.absence.result) old)
    (sym (set-nothing es (text_of c.args.name) (chars c.args.path.now) (tree_of c.args.value) none ∙ ap Err (sym why)))
    (g.met.E.Editor.refused editor old c.absence.result)

pub returns : goal.returns
returns g c =
    let e = g.E.Editor in
    let editor = c.args.editor.now in
    let old = c.args.target.now in
    let es = e.configs editor old in
    let empty = empty-pointer c.args.path.now (no_bytes
    (length c.args.path.now) c.is_empty.result c.is_empty.ensures c.if-not-is_empty.false) in
    let there : is_some (config_named es (text_of c.args.name)) ≡ true =
    ap (λ bs. is_some (config_named es (chars bs))) (sym c.deref.ensures) ∙ sym c.has.ensures.found ∙ c.if-not-has.false in
    let named = ap (λ bs. good_name (chars bs)) (sym c.deref.ensures) ∙ c.has.ensures.named c.if-not-has.false in
    subst (λ made. e.Ends editor old made c.put_within.result c.put_within.new.target)
    (sym (edited-named es (set_at (text_of c.args.name) (chars c.args.path.now) (tree_of c.args.value)) named
    ∙ set-whole es (text_of c.args.name) (chars c.args.path.now) empty there (tree_of c.args.value))) c.put_within.ensures

pub put_within-requires-clause-named : goal.put_within-requires-clause-named
put_within-requires-clause-named g c =
    ap (λ bs. good_name (chars bs)) (sym c.deref.ensures) ∙ c.has.ensures.named c.if-not-has.false
