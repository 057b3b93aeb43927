use Rattle.std.proofs.Common.{inr, Err, [], ◌∷◌, ◌++◌, sym, ap, subst, ◌∙◌}
use Rattle.conf_state.proofs.{Prelude.{err_from_is_err_and, chars, tree_of}, EditLemmas.{edited-nothing, named-good}}
use Rattle.conf_state.proofs.{PlanningLemmas.{edit-refused, or_so}, SetLemmas.{trail-push, there-named, none-named, is-put, put-same}}
use Rattle.conf_state.{proofs.SetLemmas.{put-made, put-changes, put-held, put-back}, specs.{Commands.text_of, Edits.absence}}
use Rattle.{conf_state.specs.{Kept.entries_of, Trails.Trail}, yaml_config.specs.declared.edit.Edit.TheVariants.Set}
use Rattle.conf_state.proofs.sets.set_one.Goals as goal

-- ---- no configuration has the name

pub returns-in_default-clause-refused : goal.returns-in_default-clause-refused
returns-in_default-clause-refused c =
    let es = c.args.configs.now in
    let none = none-named es c.requires.held.plain c.args.name c.deref.result.now c.deref.ensures
    c.get_mut.result c.get_mut.ensures.value c.in_default.is in
    let why = c.absence.ensures ∙ ap (λ bs. absence (chars bs)) c.deref-in_default.ensures in
    inr (edited-nothing (entries_of es) (text_of c.args.name) (Set c.args.value) (chars c.args.pointer.now) none ∙ ap Err (sym why))

-- ---- the configuration under the name

pub set_in_config-requires-clause-within : goal.set_in_config-requires-clause-within
set_in_config-requires-clause-within c =
    let es = c.args.configs.now in
    let there = there-named es c.requires.held.plain c.args.name c.deref.result.now c.deref.ensures
    c.get_mut.result c.get_mut.ensures.value c.in-Some.config c.in-Some.is in
    named-good (entries_of es) (text_of c.args.name) (tree_of c.in-Some.config.now) c.requires.held.configs there

-- ---- the set is refused

pub returns-in_err-undo-clause-refused : goal.returns-in_err-undo-clause-refused
returns-in_err-undo-clause-refused c =
    let es = c.args.configs.now in
    let there = there-named es c.requires.held.plain c.args.name c.deref.result.now c.deref.ensures
    c.get_mut.result c.get_mut.ensures.value c.in-Some.config c.in-Some.is in
    let p = err_from_is_err_and c.from_residual-in_err-undo.result c.from_residual-in_err-undo.ensures.1 in
    rw (p.1, p.2)
    (or_so (edit-refused (entries_of es) c.requires.held.configs (text_of c.args.name) (Set c.args.value)
    (chars c.args.pointer.now) (tree_of c.in-Some.config.now) there c.in_err-undo.field-0.0)
    c.in_err-undo.ensures.refused)

pub returns-in_err-undo-clause-plain : goal.returns-in_err-undo-clause-plain
returns-in_err-undo-clause-plain c =
    let es = c.args.configs.now in
    let t = c.set_in_config.new.config in
    let new = c.get_mut.follows.lender t in
    let put = is-put es c.requires.held.plain c.args.name c.deref.result.now c.deref.ensures
    c.get_mut.result c.get_mut.ensures.value c.in-Some.config c.in-Some.is new t (c.get_mut.follows.holds t) in
    put.plain

pub returns-in_err-undo-clause-trail : goal.returns-in_err-undo-clause-trail
returns-in_err-undo-clause-trail c = λ start trail.
    let es = c.args.configs.now in
    let there = there-named es c.requires.held.plain c.args.name c.deref.result.now c.deref.ensures
    c.get_mut.result c.get_mut.ensures.value c.in-Some.config c.in-Some.is in
    let t = c.set_in_config.new.config in
    let new = c.get_mut.follows.lender t in
    let put = is-put es c.requires.held.plain c.args.name c.deref.result.now c.deref.ensures
    c.get_mut.result c.get_mut.ensures.value c.in-Some.config c.in-Some.is new t (c.get_mut.follows.holds t) in
    let same = put-same es c.args.sets.now.length c.requires.held c.args.name (tree_of c.in-Some.config.now) there new t put
    c.in_err-undo.ensures.unchanged in
    subst (Trail start c.reserve.new.self.items) (sym same)
    (subst (λ ms. Trail start ms (entries_of es)) (sym c.reserve.ensures.items) trail)

-- ---- the set is made

pub length_changed-requires : goal.length_changed-requires
length_changed-requires c =
    let es = c.args.configs.now in
    let there = there-named es c.requires.held.plain c.args.name c.deref.result.now c.deref.ensures
    c.get_mut.result c.get_mut.ensures.value c.in-Some.config c.in-Some.is in
    let t = c.set_in_config.new.config in
    let new = c.get_mut.follows.lender t in
    let put = is-put es c.requires.held.plain c.args.name c.deref.result.now c.deref.ensures
    c.get_mut.result c.get_mut.ensures.value c.in-Some.config c.in-Some.is new t (c.get_mut.follows.holds t) in
    let changes = put-changes es c.args.sets.now.length c.requires.held c.args.name (tree_of c.in-Some.config.now) there new t put
    c.in_ok-undo.change c.in_ok-undo.ensures.changes in
    (entries_of es, entries_of new, text_of c.args.name, c.requires.held.counted, changes)

pub returns-in_err-sets-clause-plain : goal.returns-in_err-sets-clause-plain
returns-in_err-sets-clause-plain c =
    let es = c.args.configs.now in
    let t = c.set_in_config.new.config in
    let new = c.get_mut.follows.lender t in
    let put = is-put es c.requires.held.plain c.args.name c.deref.result.now c.deref.ensures
    c.get_mut.result c.get_mut.ensures.value c.in-Some.config c.in-Some.is new t (c.get_mut.follows.holds t) in
    put.plain

pub returns-in_err-sets-clause-trail : goal.returns-in_err-sets-clause-trail
returns-in_err-sets-clause-trail c = λ start trail.
    let es = c.args.configs.now in
    let there = there-named es c.requires.held.plain c.args.name c.deref.result.now c.deref.ensures
    c.get_mut.result c.get_mut.ensures.value c.in-Some.config c.in-Some.is in
    let t = c.set_in_config.new.config in
    let new = c.get_mut.follows.lender t in
    let put = is-put es c.requires.held.plain c.args.name c.deref.result.now c.deref.ensures
    c.get_mut.result c.get_mut.ensures.value c.in-Some.config c.in-Some.is new t (c.get_mut.follows.holds t) in
    let made = put-back es c.args.sets.now.length c.requires.held c.args.name (tree_of c.in-Some.config.now) there new t put
    c.in_ok-undo.undo c.in_ok-undo.ensures.undo in
    subst (λ ms. Trail start ms (entries_of new)) (sym c.push_reserved.ensures.items)
    (trail-push start c.reserve.new.self.items (entries_of es) (entries_of new) _
    (subst (λ ms. Trail start ms (entries_of es)) (sym c.reserve.ensures.items) trail) made)

pub returns-clause-ok : goal.returns-clause-ok
returns-clause-ok c =
    let es = c.args.configs.now in
    let there = there-named es c.requires.held.plain c.args.name c.deref.result.now c.deref.ensures
    c.get_mut.result c.get_mut.ensures.value c.in-Some.config c.in-Some.is in
    let t = c.set_in_config.new.config in
    let new = c.get_mut.follows.lender t in
    let put = is-put es c.requires.held.plain c.args.name c.deref.result.now c.deref.ensures
    c.get_mut.result c.get_mut.ensures.value c.in-Some.config c.in-Some.is new t (c.get_mut.follows.holds t) in
    put-made es c.args.sets.now.length c.requires.held c.args.name (tree_of c.in-Some.config.now) there new t put
    (Set c.args.value) (chars c.args.pointer.now) c.in_ok-undo.ensures.ok

pub returns-clause-held : goal.returns-clause-held
returns-clause-held c =
    let es = c.args.configs.now in
    let there = there-named es c.requires.held.plain c.args.name c.deref.result.now c.deref.ensures
    c.get_mut.result c.get_mut.ensures.value c.in-Some.config c.in-Some.is in
    let t = c.set_in_config.new.config in
    let new = c.get_mut.follows.lender t in
    let put = is-put es c.requires.held.plain c.args.name c.deref.result.now c.deref.ensures
    c.get_mut.result c.get_mut.ensures.value c.in-Some.config c.in-Some.is new t (c.get_mut.follows.holds t) in
    let old = tree_of c.in-Some.config.now in
    let bytes = c.args.sets.now.length in
    let changes = put-changes es bytes c.requires.held c.args.name old there new t put c.in_ok-undo.change c.in_ok-undo.ensures.changes in
    put-held es bytes c.requires.held c.args.name old there new t put c.in_ok-sets.field-0 c.in_ok-undo.ensures.within
    (c.in_ok-sets.ensures (entries_of es) (entries_of new) (text_of c.args.name) c.requires.held.counted changes)

pub returns-clause-plain : goal.returns-clause-plain
returns-clause-plain c =
    let es = c.args.configs.now in
    let t = c.set_in_config.new.config in
    let new = c.get_mut.follows.lender t in
    let put = is-put es c.requires.held.plain c.args.name c.deref.result.now c.deref.ensures
    c.get_mut.result c.get_mut.ensures.value c.in-Some.config c.in-Some.is new t (c.get_mut.follows.holds t) in
    put.plain

pub returns-clause-trail : goal.returns-clause-trail
returns-clause-trail c = λ start trail.
    let es = c.args.configs.now in
    let there = there-named es c.requires.held.plain c.args.name c.deref.result.now c.deref.ensures
    c.get_mut.result c.get_mut.ensures.value c.in-Some.config c.in-Some.is in
    let t = c.set_in_config.new.config in
    let new = c.get_mut.follows.lender t in
    let put = is-put es c.requires.held.plain c.args.name c.deref.result.now c.deref.ensures
    c.get_mut.result c.get_mut.ensures.value c.in-Some.config c.in-Some.is new t (c.get_mut.follows.holds t) in
    let made = put-back es c.args.sets.now.length c.requires.held c.args.name (tree_of c.in-Some.config.now) there new t put
    c.in_ok-undo.undo c.in_ok-undo.ensures.undo in
    subst (λ ms. Trail start ms (entries_of new)) (sym c.push_reserved.ensures.items)
    (trail-push start c.reserve.new.self.items (entries_of es) (entries_of new) _
    (subst (λ ms. Trail start ms (entries_of es)) (sym c.reserve.ensures.items) trail) made)
