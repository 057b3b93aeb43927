use Rattle.std.proofs.Common.{◌≡◌, true, false, Some, None, string_bytes, ap, sym, subst, ◌∙◌}
use Rattle.conf_state.proofs.{Prelude.lookup, PlaceLemmas.{present-put, present-closed, closed-filled, on_err}}
use Rattle.conf_state.{proofs.configs.put_place.Goals.{then-has_empty_place, else-has_empty_place}, specs.Configs.{is_name, put_under}}
use Rattle.conf_state.specs.Places.{present}
use Rattle.conf_state.proofs.configs.put_place.Goals as goal

no_truth : false ≡ true → ⊥
no_truth e = cc

pub returns-in_err-insert-clause-unchanged : goal.returns-in_err-insert-clause-unchanged
returns-in_err-insert-clause-unchanged c =
    let ps = c.args.places.now.entries in
    let joined : present c.if-has_empty_place.places.entries ≡ present ps =
    elim c.if-has_empty_place.branch [
      | then-has_empty_place w ↦ subst (λ m. present m.entries ≡ present ps) (sym w.places-is)
          (ap present w.close_empty.ensures.entries ∙ present-closed ps)
      | else-has_empty_place w ↦ ap (λ m. present m.entries) w.places-is
    ] in
    on_err c.from_residual.result (ap present c.in_err-insert.ensures.err ∙ joined)

pub returns-clause-ok : goal.returns-clause-ok
returns-clause-ok c =
    let ps = c.args.places.now.entries in
    let name = string_bytes c.args.name in
    let joined : (lookup (is_name name) c.if-has_empty_place.places.entries ≡ Some None → ⊥)
    × (present c.if-has_empty_place.places.entries ≡ present ps) =
    elim c.if-has_empty_place.branch [
      | then-has_empty_place w ↦ subst (λ m. (lookup (is_name name) m.entries ≡ Some None → ⊥)
          × (present m.entries ≡ present ps)) (sym w.places-is) (
            λ is. closed-filled name ps (ap (lookup (is_name name)) (sym w.close_empty.ensures.entries) ∙ is),
            ap present w.close_empty.ensures.entries ∙ present-closed ps,
          )
      | else-has_empty_place w ↦ (
        λ is. no_truth (w.if-has_empty_place.ensures.1 (ap (λ bs. lookup (is_name bs) c.args.places.now.entries) c.deref.ensures
            ∙ ap (λ m. lookup (is_name name) m.entries) (sym w.places-is) ∙ is)),
        ap (λ m. present m.entries) w.places-is,
      )
    ] in
    ap present c.in_ok-insert.ensures.entries ∙ present-put c.args.name c.args.config c.if-has_empty_place.places.entries joined.0
    ∙ ap (put_under c.args.name c.args.config) joined.1
