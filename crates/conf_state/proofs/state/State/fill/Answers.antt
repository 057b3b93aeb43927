use Rattle.std.proofs.Common.{◌≡◌, ◌+◌, [], Ok, refl, ap, sym, subst, ◌∙◌, arith}
use Rattle.conf_state.proofs.{Prelude.err_from_is_err_and, StateLemmas.kept_new, TakeLemmas.{drafted-nothing, drafted-configs}}
use Rattle.conf_state.{proofs.TakeLemmas.drafted-distinct, specs.{BaseTexts.entries_length, Drafts.drafted, Steps.next_state}}
use Rattle.conf_state.proofs.state.State.fill.Goals as goal

pub invariant_of-self : goal.invariant_of-self
invariant_of-self c =
    let draft = c.args.draft in
    let made = ap (λ es. drafted es draft) c.requires.nothing in
    let room = c.in_ok-check_room.ensures.ok (drafted c.args.self.now.configs draft)
    (omega (arith, c.requires.draft.counted, c.in_ok-check_room.ensures.short)) in
    kept_new c.self.inside.configs c.self.inside.count c.self.inside.entries c.self.invariant
    (omega (arith, ap (λ s. s.count) c.self.view_is, c.in_ok-check_room.ensures.counts))
    (drafted [] draft) (drafted-configs draft c.requires.draft.good [] tt) (drafted-distinct draft c.requires.draft.good [] refl)
    c.args.room _
    (subst (λ s. next_state s c.args.room (drafted [] draft)
    ≡ Ok (record { configs = drafted [] draft; count = s.count + 1 })) (sym c.self.view_is)
    (subst (λ es. next_state c.args.self.now c.args.room es ≡ Ok (record { configs = es; count = c.args.self.now.count + 1 })) made room))
    draft.touched draft.length c.requires.draft.good.plain (sym (drafted-nothing draft c.requires.draft.good))
    (c.requires.draft.counted ∙ ap entries_length made)

pub returns-clause-ok : goal.returns-clause-ok
returns-clause-ok c =
    let draft = c.args.draft in
    let made = ap (λ es. drafted es draft) c.requires.nothing in
    let room = c.in_ok-check_room.ensures.ok (drafted c.args.self.now.configs draft)
    (omega (arith, c.requires.draft.counted, c.in_ok-check_room.ensures.short)) in
    room ∙ ap (λ s. Ok (record { configs = drafted c.args.self.now.configs draft; count = s.count + 1 })) (sym c.self.view_is)
    ∙ ap (λ cs. Ok (record { configs = cs; count = c.self.inside.count + 1 })) (made ∙ drafted-nothing draft c.requires.draft.good)

pub returns-in_err-check_room-clause-refused : goal.returns-in_err-check_room-clause-refused
returns-in_err-check_room-clause-refused c =
    let p = err_from_is_err_and c.from_residual.result c.from_residual.ensures.1 in
    rw (p.1, p.2)
    (c.in_err-check_room.ensures.refused (drafted c.args.self.now.configs c.args.draft) (omega (arith, c.requires.draft.counted)))
