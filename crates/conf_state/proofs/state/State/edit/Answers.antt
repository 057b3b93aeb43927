use Rattle.std.proofs.Common.{◌≡◌, ◌+◌, List, OnSome, Ok, Err, Some, inr, is_some, option_map, refl, ap, subst, ◌∙◌, sym, arith}
use Rattle.conf_state.proofs.Prelude.{err_from_is_err_and, lookup, set_value, option_copied_mut, chars, tree_of, tree_after_edit}
use Rattle.conf_state.proofs.{EditLemmas.{named-good, found-good, found-named, same_edit, edited-nothing}, EntryLemmas.lookup-named}
use Rattle.conf_state.proofs.{EntryLemmas.{set_value-named, plain_set_value, put_config-same}, PlanningLemmas.{edit-made, edit-refused}}
use Rattle.conf_state.proofs.{PlanningLemmas.{plan-made, or_so}, StateLemmas.{kept_put, kept_same}, state.State.edit.Goals.In-Some}
use Rattle.conf_state.{proofs.state.State.edit.Goals.In_ok-perform, specs.{BaseTexts.entries_length, Configs.is_name, Edits.configs_edited}}
use Rattle.conf_state.specs.{Kept.{entries_of, ArePlain, IsKept}, States.{Entry, config_named, put_config}, Steps.{and_then, next_state}}
use Rattle.yaml_data.specs.declared.tree.Tree.{Tree}
use Rattle.conf_state.proofs.state.State.edit.Goals as goal

-- ---- no configuration has the name

pub returns-in_default-clause-refused : goal.returns-in_default-clause-refused
returns-in_default-clause-refused c =
    let name = chars c.args.name.now in
    let missing =
    ap (λ s. config_named s.configs name) (sym c.self.view_is)
    ∙ sym (lookup-named c.args.name.now c.utf8.name c.self.inside.configs c.self.invariant.plain)
    ∙ ap (option_map tree_of) (sym c.get_mut.ensures.value ∙ ap option_copied_mut c.in_default.is) in
    inr (ap (λ r. and_then r (next_state c.args.self.now c.args.room))
    (edited-nothing c.args.self.now.configs name c.args.edit (chars c.args.pointer.now) missing ∙ ap Err (sym c.absence.ensures)))

-- ---- the configuration under the name

held : (c : In-Some) → lookup (is_name c.args.name.now) c.self.inside.configs ≡ Some c.in-Some.config.now
held c = sym c.get_mut.ensures.value ∙ ap option_copied_mut c.in-Some.is

there : (c : In-Some) → config_named (entries_of c.self.inside.configs) (chars c.args.name.now) ≡ Some (tree_of c.in-Some.config.now)
there c = found-named c.args.name.now c.utf8.name c.self.inside.configs c.self.invariant.plain c.in-Some.config.now (held c)

seen : (c : In-Some) → config_named c.args.self.now.configs (chars c.args.name.now) ≡ Some (tree_of c.in-Some.config.now)
seen c = ap (λ s. config_named s.configs (chars c.args.name.now)) (sym c.self.view_is) ∙ there c

-- the configurations once the one that is edited is back in its place
record IsPlaced (c : In-Some) (t : Tree) : Type 0 where
  plain : ArePlain (c.get_mut.follows.lender t)
  entries : entries_of (c.get_mut.follows.lender t) ≡ put_config (entries_of c.self.inside.configs) (chars c.args.name.now) (tree_of t)

is_placed : (c : In-Some) (t : Tree) → IsPlaced c t
is_placed c t =
    let es = c.self.inside.configs in
    let set = subst (λ r. OnSome r (c.get_mut.follows.lender t ≡ set_value (is_name c.args.name.now) es t)) c.in-Some.is
    (c.get_mut.follows.holds t) in
    record {
      plain = subst ArePlain (sym set) (plain_set_value c.args.name.now t es c.self.invariant.plain);
      entries = ap entries_of set ∙ set_value-named c.args.name.now c.utf8.name es c.in-Some.config.now t c.self.invariant.plain (held c);
    }

-- they are the same if the tree is
back : (c : In-Some) (t : Tree) → tree_of t ≡ tree_of c.in-Some.config.now
    → entries_of (c.get_mut.follows.lender t) ≡ entries_of c.self.inside.configs
back c t same =
    (is_placed c t).entries
    ∙ put_config-same (entries_of c.self.inside.configs) (chars c.args.name.now) (tree_of t) (there c ∙ ap Some (sym same))

kept : (c : In-Some) (t : Tree) → tree_of t ≡ tree_of c.in-Some.config.now
    → IsKept (c.get_mut.follows.lender t) c.self.inside.count c.self.inside.entries
kept c t same =
    kept_same c.self.inside.configs c.self.inside.count c.self.inside.entries c.self.invariant (c.get_mut.follows.lender t)
    (is_placed c t).plain (back c t same)

pub new-requires-clause-within : goal.new-requires-clause-within
new-requires-clause-within c =
    named-good (entries_of c.self.inside.configs) (chars c.args.name.now) (tree_of c.in-Some.config.now) c.self.invariant.state.configs
    (there (goal.at.new-requires-clause-within c).In-Some)

pub length_after-entries-requires : goal.length_after-entries-requires
length_after-entries-requires c =
    let l = c.in_ok-plan.ensures.ok in (
      c.args.self.now.configs,
      chars c.args.name.now,
      tree_of c.in-Some.config.now,
      l.new,
      c.entries_length-before.ensures.exact,
      c.entries_length-before.ensures.short,
      seen (goal.at.length_after-entries-requires c).In-Some,
      l.changes,
      l.long,
    )

-- ---- a refusal by the edit's plan

pub invariant_of-self-in_err-plan : goal.invariant_of-self-in_err-plan
invariant_of-self-in_err-plan c = kept (goal.at.invariant_of-self-in_err-plan c).In-Some c.in-Some.config.now refl

pub returns-in_err-plan-clause-unchanged : goal.returns-in_err-plan-clause-unchanged
returns-in_err-plan-clause-unchanged c =
    let at = (goal.at.returns-in_err-plan-clause-unchanged c).In-Some in
    let p = err_from_is_err_and c.from_residual.result c.from_residual.ensures.1 in
    rw p.1
    (ap (λ cs. record { configs = cs; count = c.self.inside.count }) (back at c.in-Some.config.now refl) ∙ c.self.view_is)

pub returns-in_err-plan-clause-refused : goal.returns-in_err-plan-clause-refused
returns-in_err-plan-clause-refused c =
    let s = c.args.self.now in
    let found = seen (goal.at.returns-in_err-plan-clause-refused c).In-Some in
    let p = err_from_is_err_and c.from_residual.result c.from_residual.ensures.1 in
    rw (p.1, p.2)
    (or_so (λ is. ap (λ r. and_then r (next_state s c.args.room))
    (edit-refused s.configs c.entries_length-before.ensures.kept.configs (chars c.args.name.now) c.args.edit (chars c.args.pointer.now)
    (tree_of c.in-Some.config.now) found c.in_err-plan.field-0.0 is))
    c.in_err-plan.ensures.refused)

-- ---- a refusal for the store's room

pub invariant_of-self-in_err-check_room : goal.invariant_of-self-in_err-check_room
invariant_of-self-in_err-check_room c = kept (goal.at.invariant_of-self-in_err-check_room c).In-Some c.in-Some.config.now refl

pub returns-in_err-check_room-clause-unchanged : goal.returns-in_err-check_room-clause-unchanged
returns-in_err-check_room-clause-unchanged c =
    let at = (goal.at.returns-in_err-check_room-clause-unchanged c).In-Some in
    let p = err_from_is_err_and c.from_residual-in_err-check_room.result c.from_residual-in_err-check_room.ensures.1 in
    rw p.1
    (ap (λ cs. record { configs = cs; count = c.self.inside.count }) (back at c.in-Some.config.now refl) ∙ c.self.view_is)

pub returns-in_err-check_room-clause-refused : goal.returns-in_err-check_room-clause-refused
returns-in_err-check_room-clause-refused c =
    let s = c.args.self.now in
    let name = chars c.args.name.now in
    let pointer = chars c.args.pointer.now in
    let old = tree_of c.in-Some.config.now in
    let found = seen (goal.at.returns-in_err-check_room-clause-refused c).In-Some in
    let l = c.in_ok-plan.ensures.ok in
    let entries = c.length_after-entries.ensures s.configs name old l.new c.entries_length-before.ensures.exact found l.changes in
    let made = edit-made s.configs c.entries_length-before.ensures.kept.configs name c.args.edit pointer old found l.new
    (plan-made c.args.edit old pointer c.in_ok-plan.plan l c.in_ok-plan.ensures.path) in
    let p = err_from_is_err_and c.from_residual-in_err-check_room.result c.from_residual-in_err-check_room.ensures.1 in
    rw (p.1, p.2)
    (inr (ap (λ r. and_then r (next_state s c.args.room)) made
    ∙ c.in_err-check_room.ensures.refused s (put_config s.configs name l.new) (ap (λ s. s.count) (sym c.self.view_is))
    (omega (arith, entries))))

-- ---- no memory for the edit: the tree is the same

pub invariant_of-self-in_err-perform : goal.invariant_of-self-in_err-perform
invariant_of-self-in_err-perform c =
    kept (goal.at.invariant_of-self-in_err-perform c).In-Some c.perform.new.config c.in_err-perform.ensures.unchanged

pub returns-in_err-perform-clause-unchanged : goal.returns-in_err-perform-clause-unchanged
returns-in_err-perform-clause-unchanged c =
    let at = (goal.at.returns-in_err-perform-clause-unchanged c).In-Some in
    let p = err_from_is_err_and c.from_residual-in_err-perform.result c.from_residual-in_err-perform.ensures.1 in
    rw p.1
    (ap (λ cs. record { configs = cs; count = c.self.inside.count }) (back at c.perform.new.config c.in_err-perform.ensures.unchanged)
    ∙ c.self.view_is)

-- ---- the edit is made

-- the configurations after the edit
abbrev edited : In_ok-perform → List Entry
edited c = put_config c.args.self.now.configs (chars c.args.name.now) (tree_of c.perform.new.config)

-- what holds once the edit is made: it makes what was planned, and the store has room for it
record IsMade (c : In_ok-perform) : Type 0 where
  made : configs_edited c.args.self.now.configs (chars c.args.name.now) c.args.edit (chars c.args.pointer.now) ≡ Ok (edited c)
  counts : c.length_after-entries.result ≡ entries_length (edited c)
  room : next_state c.args.self.now c.args.room (edited c) ≡ Ok (record { configs = edited c; count = c.args.self.now.count + 1 })

is_made : (c : In_ok-perform)
    → config_named c.args.self.now.configs (chars c.args.name.now) ≡ Some (tree_of c.in-Some.config.now) → IsMade c
is_made c found =
    let s = c.args.self.now in
    let name = chars c.args.name.now in
    let pointer = chars c.args.pointer.now in
    let old = tree_of c.in-Some.config.now in
    let plan = c.in_ok-plan.plan in
    let l = c.in_ok-plan.ensures.ok in
    let entries = c.length_after-entries.ensures s.configs name old l.new c.entries_length-before.ensures.exact found l.changes in
    let new = same_edit (tree_after_edit c.args.edit old plan.path) l.new (tree_of c.perform.new.config)
    l.made c.in_ok-perform.ensures.ok in
    let counts = entries ∙ ap (λ u. entries_length (put_config s.configs name u)) new in
    record {
      made = edit-made s.configs c.entries_length-before.ensures.kept.configs name c.args.edit pointer old found l.new
          (plan-made c.args.edit old pointer plan l c.in_ok-plan.ensures.path)
          ∙ ap (λ u. Ok (put_config s.configs name u)) new;
      counts = counts;
      room = c.in_ok-check_room.ensures.ok s (edited c) (ap (λ s. s.count) (sym c.self.view_is))
          (omega (arith, counts, c.in_ok-check_room.ensures.short));
    }

pub invariant_of-self-2 : goal.invariant_of-self-2
invariant_of-self-2 c =
    let at = goal.at.invariant_of-self-2 c in
    let placed = is_placed at.In-Some c.perform.new.config in
    let edit = is_made at.In_ok-perform (seen at.In-Some) in
    let name = chars c.args.name.now in
    let t = tree_of c.perform.new.config in
    let all = c.self.invariant.state.configs in
    kept_put c.self.inside.configs c.self.inside.count c.self.inside.entries c.self.invariant
    c.in_ok-check_room.ensures.counts
    name t (found-good (entries_of c.self.inside.configs) name all (ap is_some (there at.In-Some)))
    c.in_ok-perform.ensures.within c.args.room _
    (subst (λ s. next_state s c.args.room (put_config s.configs name t)
    ≡ Ok (record { configs = put_config s.configs name t; count = s.count + 1 }))
    (sym c.self.view_is) edit.room)
    _ c.length_after-entries.result placed.plain placed.entries
    (edit.counts ∙ ap (λ s. entries_length (put_config s.configs name t)) (sym c.self.view_is))

pub returns-clause-ok : goal.returns-clause-ok
returns-clause-ok c =
    let at = goal.at.returns-clause-ok c in
    let placed = is_placed at.In-Some c.perform.new.config in
    let edit = is_made at.In_ok-perform (seen at.In-Some) in
    let name = chars c.args.name.now in
    let t = tree_of c.perform.new.config in
    ap (λ r. and_then r (next_state c.args.self.now c.args.room)) edit.made
    ∙ edit.room ∙ ap (λ s. Ok (record { configs = put_config s.configs name t; count = s.count + 1 })) (sym c.self.view_is)
    ∙ ap (λ cs. Ok (record { configs = cs; count = c.self.inside.count + 1 })) (sym placed.entries)
