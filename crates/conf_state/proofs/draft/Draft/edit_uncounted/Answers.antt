use Rattle.std.proofs.Common.{inr, Err, option_map, sym, ap, ◌∙◌}
use Rattle.conf_state.proofs.Prelude.{on_ok_weaker, IfOk-weaker, IfErr-weaker, err_from_is_err_and, chars, tree_of}
use Rattle.conf_state.proofs.{EditLemmas.edited-nothing, OriginLemmas.{there-good, drafted-within}, PlanningLemmas.{edit-refused, or_so}}
use Rattle.conf_state.proofs.DraftEdits.{held-config, changed-in, copied-config, copy-put-in, after-edit, after-kept, after-change}
use Rattle.conf_state.specs.{Commands.text_of, Configs.put_under, Drafts.drafted, Edits.absence}
use Rattle.conf_state.proofs.draft.Draft.edit_uncounted.Goals as goal

-- ---- a configuration that the draft holds

pub edit_config-requires-clause-within : goal.edit_config-requires-clause-within
edit_config-requires-clause-within g c =
    let es = g.O.Origin.configs c.args.origin.now in
    there-good es c.args.self.now c.requires.draft (text_of c.args.name) (tree_of c.in-Some.config.now)
    (held-config es c.args.self.now c.requires.draft c.args.name c.deref.result.now c.deref.ensures
    c.get_mut.result c.get_mut.ensures.value c.in-Some.config c.in-Some.is)

pub returns-in-Some-clause-ok : goal.returns-in-Some-clause-ok
returns-in-Some-clause-ok g c =
    let es = g.O.Origin.configs c.args.origin.now in
    let draft = c.args.self.now in
    let of = c.requires.draft in
    let t = c.edit_config.new.config in
    let lender = c.get_mut.follows.lender t in
    let there = held-config es draft of c.args.name c.deref.result.now c.deref.ensures
    c.get_mut.result c.get_mut.ensures.value c.in-Some.config c.in-Some.is in
    let put = changed-in es draft of c.args.name c.deref.result.now c.deref.ensures
    c.get_mut.result c.get_mut.ensures.value c.in-Some.config c.in-Some.is lender t (c.get_mut.follows.holds t) in
    on_ok_weaker c.edit_config.result
    (after-edit es draft of c.args.name (tree_of c.in-Some.config.now) there lender t put c.args.edit (chars c.args.pointer.now))
    c.edit_config.ensures.ok

pub returns-in-Some-clause-draft : goal.returns-in-Some-clause-draft
returns-in-Some-clause-draft g c =
    let es = g.O.Origin.configs c.args.origin.now in
    let draft = c.args.self.now in
    let of = c.requires.draft in
    let t = c.edit_config.new.config in
    let lender = c.get_mut.follows.lender t in
    let there = held-config es draft of c.args.name c.deref.result.now c.deref.ensures
    c.get_mut.result c.get_mut.ensures.value c.in-Some.config c.in-Some.is in
    let put = changed-in es draft of c.args.name c.deref.result.now c.deref.ensures
    c.get_mut.result c.get_mut.ensures.value c.in-Some.config c.in-Some.is lender t (c.get_mut.follows.holds t) in
    on_ok_weaker c.edit_config.result
    (after-kept es draft of c.args.name (tree_of c.in-Some.config.now) there lender t put)
    c.edit_config.ensures.within

pub returns-in-Some-clause-changes : goal.returns-in-Some-clause-changes
returns-in-Some-clause-changes g c =
    let es = g.O.Origin.configs c.args.origin.now in
    let draft = c.args.self.now in
    let of = c.requires.draft in
    let t = c.edit_config.new.config in
    let lender = c.get_mut.follows.lender t in
    let there = held-config es draft of c.args.name c.deref.result.now c.deref.ensures
    c.get_mut.result c.get_mut.ensures.value c.in-Some.config c.in-Some.is in
    let put = changed-in es draft of c.args.name c.deref.result.now c.deref.ensures
    c.get_mut.result c.get_mut.ensures.value c.in-Some.config c.in-Some.is lender t (c.get_mut.follows.holds t) in
    IfOk-weaker c.edit_config.result _ _
    (after-change es draft of c.args.name (tree_of c.in-Some.config.now) there lender t put)
    c.edit_config.ensures.changes

pub returns-in-Some-clause-refused : goal.returns-in-Some-clause-refused
returns-in-Some-clause-refused g c =
    let es = g.O.Origin.configs c.args.origin.now in
    let draft = c.args.self.now in
    let there = held-config es draft c.requires.draft c.args.name c.deref.result.now c.deref.ensures
    c.get_mut.result c.get_mut.ensures.value c.in-Some.config c.in-Some.is in
    IfErr-weaker c.edit_config.result _ _
    (λ fault. or_so (edit-refused (drafted es draft) (drafted-within es draft c.requires.draft).configs (text_of c.args.name) c.args.edit
    (chars c.args.pointer.now) (tree_of c.in-Some.config.now) there fault))
    c.edit_config.ensures.refused

-- ---- a configuration of the origin, or none

pub returns-in_default-2-clause-refused : goal.returns-in_default-2-clause-refused
returns-in_default-2-clause-refused g c =
    let es = g.O.Origin.configs c.args.origin.now in
    let draft = c.args.self.now in
    let none = copied-config es draft c.requires.draft c.args.name c.deref.result.now c.deref.ensures
    c.get_mut.result c.get_mut.ensures.value c.in_default.is c.deref-2.result.now c.deref-2.ensures
    c.in_ok-copy.field-0 c.in_ok-copy.ensures
    ∙ ap (option_map tree_of) c.in_default-2.is in
    let why = c.absence.ensures ∙ ap (λ bs. absence (chars bs)) c.deref-in_default-2.ensures in
    inr (edited-nothing (drafted es draft) (text_of c.args.name) c.args.edit (chars c.args.pointer.now) none ∙ ap Err (sym why))

pub edit_config-requires-2-clause-within : goal.edit_config-requires-2-clause-within
edit_config-requires-2-clause-within g c =
    let es = g.O.Origin.configs c.args.origin.now in
    let draft = c.args.self.now in
    let there = copied-config es draft c.requires.draft c.args.name c.deref.result.now c.deref.ensures
    c.get_mut.result c.get_mut.ensures.value c.in_default.is c.deref-2.result.now c.deref-2.ensures
    c.in_ok-copy.field-0 c.in_ok-copy.ensures
    ∙ ap (option_map tree_of) c.in-Some-2.is in
    there-good es draft c.requires.draft (text_of c.args.name) (tree_of c.in-Some-2.copy) there

pub returns-in_err-change-clause-refused : goal.returns-in_err-change-clause-refused
returns-in_err-change-clause-refused g c =
    let es = g.O.Origin.configs c.args.origin.now in
    let draft = c.args.self.now in
    let there = copied-config es draft c.requires.draft c.args.name c.deref.result.now c.deref.ensures
    c.get_mut.result c.get_mut.ensures.value c.in_default.is c.deref-2.result.now c.deref-2.ensures
    c.in_ok-copy.field-0 c.in_ok-copy.ensures
    ∙ ap (option_map tree_of) c.in-Some-2.is in
    let p = err_from_is_err_and c.from_residual-in_err-change.result c.from_residual-in_err-change.ensures.1 in
    rw (p.1, p.2)
    (or_so (edit-refused (drafted es draft) (drafted-within es draft c.requires.draft).configs (text_of c.args.name) c.args.edit
    (chars c.args.pointer.now) (tree_of c.in-Some-2.copy) there c.in_err-change.field-0.0)
    c.in_err-change.ensures.refused)

pub returns-clause-ok : goal.returns-clause-ok
returns-clause-ok g c =
    let es = g.O.Origin.configs c.args.origin.now in
    let draft = c.args.self.now in
    let of = c.requires.draft in
    let t = c.edit_config-2.new.config in
    let old = tree_of c.in-Some-2.copy in
    let there = copied-config es draft of c.args.name c.deref.result.now c.deref.ensures
    c.get_mut.result c.get_mut.ensures.value c.in_default.is c.deref-2.result.now c.deref-2.ensures
    c.in_ok-copy.field-0 c.in_ok-copy.ensures
    ∙ ap (option_map tree_of) c.in-Some-2.is in
    let put = copy-put-in es draft of c.args.name old there c.put.new.self t
    (c.in_ok-put.ensures.ok ∙ ap (put_under c.args.name t) c.get_mut.follows.holds-at-none) in
    after-edit es draft of c.args.name old there c.put.new.self t put c.args.edit (chars c.args.pointer.now) c.in_ok-change.ensures.ok

pub returns-clause-draft : goal.returns-clause-draft
returns-clause-draft g c =
    let es = g.O.Origin.configs c.args.origin.now in
    let draft = c.args.self.now in
    let of = c.requires.draft in
    let t = c.edit_config-2.new.config in
    let old = tree_of c.in-Some-2.copy in
    let there = copied-config es draft of c.args.name c.deref.result.now c.deref.ensures
    c.get_mut.result c.get_mut.ensures.value c.in_default.is c.deref-2.result.now c.deref-2.ensures
    c.in_ok-copy.field-0 c.in_ok-copy.ensures
    ∙ ap (option_map tree_of) c.in-Some-2.is in
    let put = copy-put-in es draft of c.args.name old there c.put.new.self t
    (c.in_ok-put.ensures.ok ∙ ap (put_under c.args.name t) c.get_mut.follows.holds-at-none) in
    after-kept es draft of c.args.name old there c.put.new.self t put c.in_ok-change.ensures.within

pub returns-clause-changes : goal.returns-clause-changes
returns-clause-changes g c =
    let es = g.O.Origin.configs c.args.origin.now in
    let draft = c.args.self.now in
    let of = c.requires.draft in
    let t = c.edit_config-2.new.config in
    let old = tree_of c.in-Some-2.copy in
    let there = copied-config es draft of c.args.name c.deref.result.now c.deref.ensures
    c.get_mut.result c.get_mut.ensures.value c.in_default.is c.deref-2.result.now c.deref-2.ensures
    c.in_ok-copy.field-0 c.in_ok-copy.ensures
    ∙ ap (option_map tree_of) c.in-Some-2.is in
    let put = copy-put-in es draft of c.args.name old there c.put.new.self t
    (c.in_ok-put.ensures.ok ∙ ap (put_under c.args.name t) c.get_mut.follows.holds-at-none) in
    after-change es draft of c.args.name old there c.put.new.self t put c.in_ok-change.change c.in_ok-change.ensures.changes
