use Rattle.std.proofs.Common.{◌≡◌, ◌+◌, inr, Ok, ap, sym, subst, ◌∙◌, arith}
use Rattle.conf_state.proofs.{Prelude.err_from_is_err_and, StateLemmas.kept_new, TakeLemmas.{drafted-configs, drafted-distinct}}
use Rattle.conf_state.{proofs.TakeLemmas.{taken-named, taken-plain}, specs.{BaseTexts.entries_length, Drafts.drafted, Kept.entries_of}}
use Rattle.conf_state.specs.Steps.{next_state}
use Rattle.conf_state.proofs.state.State.take.Goals as goal

pub invariant_of-self-2 : goal.invariant_of-self-2
invariant_of-self-2 c =
    let draft = c.args.draft in
    let es = c.self.inside.configs in
    let kept = c.self.invariant in
    let room = c.in_ok-check_room.ensures.ok (drafted c.args.self.now.configs draft)
    (omega (arith, c.requires.counted, c.in_ok-check_room.ensures.short)) in
    kept_new es c.self.inside.count c.self.inside.entries kept
    (omega (arith, ap (λ s. s.count) c.self.view_is, c.in_ok-check_room.ensures.counts))
    (drafted (entries_of es) draft) (drafted-configs draft c.requires.good (entries_of es) kept.state.configs)
    (drafted-distinct draft c.requires.good (entries_of es) kept.state.distinct)
    c.args.room _
    (subst (λ s. next_state s c.args.room (drafted s.configs draft)
    ≡ Ok (record { configs = drafted s.configs draft; count = s.count + 1 })) (sym c.self.view_is) room)
    c.update.new.self draft.length (taken-plain draft c.requires.good es c.update.new.self kept.plain c.in_ok-update.ensures.ok)
    (taken-named draft c.requires.good es c.update.new.self kept.plain c.in_ok-update.ensures.ok)
    (c.requires.counted ∙ ap (λ s. entries_length (drafted s.configs draft)) (sym c.self.view_is))

pub returns-clause-ok : goal.returns-clause-ok
returns-clause-ok c =
    let draft = c.args.draft in
    let room = c.in_ok-check_room.ensures.ok (drafted c.args.self.now.configs draft)
    (omega (arith, c.requires.counted, c.in_ok-check_room.ensures.short)) in
    room ∙ ap (λ s. Ok (record { configs = drafted s.configs draft; count = s.count + 1 })) (sym c.self.view_is)
    ∙ ap (λ cs. Ok (record { configs = cs; count = c.self.inside.count + 1 }))
    (sym (taken-named draft c.requires.good c.self.inside.configs c.update.new.self c.self.invariant.plain c.in_ok-update.ensures.ok))

pub returns-in_err-check_room-clause-refused : goal.returns-in_err-check_room-clause-refused
returns-in_err-check_room-clause-refused c =
    let p = err_from_is_err_and c.from_residual.result c.from_residual.ensures.1 in
    rw (p.1, p.2)
    (inr (c.in_err-check_room.ensures.refused (drafted c.args.self.now.configs c.args.draft) (omega (arith, c.requires.counted))))
