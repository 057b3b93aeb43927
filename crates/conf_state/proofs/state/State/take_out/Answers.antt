use Rattle.std.proofs.Common.{◌≡◌, ◌+◌, Ok, ap, sym, subst, ◌∙◌, arith}
use Rattle.conf_state.{proofs.{Prelude.chars, EntryLemmas.cut_from-named, StateLemmas.kept_cut}, specs.BaseTexts.entries_length}
use Rattle.conf_state.specs.{States.cut_config, Kept.entries_of, Steps.next_state}
use Rattle.conf_state.proofs.state.State.take_out.Goals as goal

pub invariant_of-self : goal.invariant_of-self
invariant_of-self c =
    let name = chars c.args.name.now in
    let room = c.in_ok-check_room.ensures.ok (cut_config c.args.self.now.configs name) (omega (arith, c.length_without-entries.ensures)) in
    kept_cut c.self.inside.configs c.self.inside.count c.self.inside.entries c.self.invariant
    (omega (arith, ap (λ s. s.count) c.self.view_is, c.in_ok-check_room.ensures.counts))
    c.args.name.now c.utf8.name c.args.room _
    (subst (λ s. next_state s c.args.room (cut_config s.configs name)
    ≡ Ok (record { configs = cut_config s.configs name; count = s.count + 1 }))
    (sym c.self.view_is) room)
    c.remove.new.self c.length_without-entries.result c.remove.ensures
    (c.length_without-entries.ensures ∙ ap (λ s. entries_length (cut_config s.configs name)) (sym c.self.view_is))

pub returns-clause-ok : goal.returns-clause-ok
returns-clause-ok c =
    let name = chars c.args.name.now in
    let es = c.self.inside.configs in
    let room = c.in_ok-check_room.ensures.ok (cut_config c.args.self.now.configs name) (omega (arith, c.length_without-entries.ensures)) in
    let seen : entries_of c.remove.new.self ≡ cut_config (entries_of es) name =
    ap entries_of c.remove.ensures ∙ cut_from-named c.args.name.now c.utf8.name es c.self.invariant.plain in
    room ∙ ap (λ s. Ok (record { configs = cut_config s.configs name; count = s.count + 1 })) (sym c.self.view_is)
    ∙ ap (λ cs. Ok (record { configs = cs; count = c.self.inside.count + 1 })) (sym seen)
