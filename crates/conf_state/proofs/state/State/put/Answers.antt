use Rattle.std.proofs.Common.{◌≡◌, ◌+◌, string_bytes, min, Ok, IsUtf8, ap, sym, subst, ◌∙◌, arith}
use Rattle.conf_state.proofs.Prelude.{chars, tree_of}
use Rattle.conf_state.specs.{States.put_config, BaseTexts.entries_length, Kept.entries_of, Kept.ArePlain, Steps.next_state}
use Rattle.conf_state.proofs.{EntryLemmas.put_under-named, EntryLemmas.plain_put_under, NameLemmas.good_name-ascii, StateLemmas.kept_put}
use Rattle.conf_state.proofs.state.State.put.Goals as goal

pub invariant_of-self-2 : goal.invariant_of-self-2
invariant_of-self-2 c =
    let name = string_bytes c.args.name in
    let tree = tree_of c.args.config in
    let utf8 = subst IsUtf8 c.deref.ensures c.deref.utf8 in
    let room = c.in_ok-check_room.ensures.ok (put_config c.args.self.now.configs (chars name) tree)
    (c.length_with-entries.ensures ∙ ap (λ bs. min
    (entries_length (put_config c.args.self.now.configs (chars bs) tree)) 18446744073709551615) c.deref.ensures) in
    let es = c.self.inside.configs in
    let counts = c.length_with-entries.ensures ∙ ap
    (λ bs. min (entries_length (put_config c.args.self.now.configs (chars bs) tree)) 18446744073709551615) c.deref.ensures in
    let exact : c.length_with-entries.result ≡ entries_length (put_config c.args.self.now.configs (chars name) tree) =
    omega (arith, counts, c.in_ok-check_room.ensures.short) in
    let seen = ap entries_of c.in_ok-put.ensures.ok ∙ put_under-named c.args.name utf8 c.args.config es c.self.invariant.plain in
    let plain = subst ArePlain (sym c.in_ok-put.ensures.ok)
    (plain_put_under c.args.name c.args.config es (good_name-ascii name utf8 c.requires.named) c.self.invariant.plain) in
    kept_put es c.self.inside.count c.self.inside.entries c.self.invariant
    (omega (arith, ap (λ s. s.count) c.self.view_is, c.in_ok-check_room.ensures.counts))
    (chars name) tree c.requires.named c.requires.within c.args.room _
    (subst (λ s. next_state s c.args.room (put_config s.configs (chars name) tree)
    ≡ Ok (record { configs = put_config s.configs (chars name) tree; count = s.count + 1 }))
    (sym c.self.view_is) room)
    c.put.new.self c.length_with-entries.result plain seen
    (exact ∙ ap (λ s. entries_length (put_config s.configs (chars name) tree)) (sym c.self.view_is))

pub returns-clause-ok : goal.returns-clause-ok
returns-clause-ok c =
    let name = string_bytes c.args.name in
    let tree = tree_of c.args.config in
    let es = c.self.inside.configs in
    let room = c.in_ok-check_room.ensures.ok (put_config c.args.self.now.configs (chars name) tree)
    (c.length_with-entries.ensures ∙ ap (λ bs. min
    (entries_length (put_config c.args.self.now.configs (chars bs) tree)) 18446744073709551615) c.deref.ensures) in
    let seen : entries_of c.put.new.self ≡ put_config (entries_of es) (chars name) tree =
    ap entries_of c.in_ok-put.ensures.ok
    ∙ put_under-named c.args.name (subst IsUtf8 c.deref.ensures c.deref.utf8) c.args.config es c.self.invariant.plain in
    room ∙ ap (λ s. Ok (record { configs = put_config s.configs (chars name) tree; count = s.count + 1 })) (sym c.self.view_is)
    ∙ ap (λ cs. Ok (record { configs = cs; count = c.self.inside.count + 1 })) (sym seen)
