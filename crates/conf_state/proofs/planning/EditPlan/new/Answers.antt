use Rattle.std.proofs.Common.{inr, ◌∙◌, sym, ap, arith}
use Rattle.conf_state.proofs.Prelude.{err_from_is_err_and, chars, depth, tree_of, tree_after_edit, config_limits, path_of}
use Rattle.conf_state.proofs.{EditLemmas.{at_most, parsed-Ok, parsed-Err, path-refused, pointer-steps}, PlanningLemmas.at-path}
use Rattle.conf_state.{proofs.PlanningLemmas.{checked_edit-deep, checked_edit-large, or_so}, specs.{Edits.checked_edit, Steps.and_then}}
use Rattle.conf_state.specs.Steps.{checked_tree}
use Rattle.conf_state.proofs.planning.EditPlan.new.Goals as goal

pub returns-in_err-path-clause-refused : goal.returns-in_err-path-clause-refused
returns-in_err-path-clause-refused c =
    let p = err_from_is_err_and c.from_residual.result c.from_residual.ensures.1 in
    rw (p.1, p.2)
    (or_so (ap (λ r. and_then r (checked_edit c.args.edit.now (tree_of c.args.config.now))))
    (path-refused (path_of (chars c.args.pointer.now)) c.in_err-path.field-0.0
    (parsed-Err (chars c.args.pointer.now) c.in_err-path.field-0.0 c.in_err-path.ensures.met)))

pub plan-requires : goal.plan-requires
plan-requires c =
    pointer-steps c.args.pointer.now c.in_ok-path.path c.utf8.pointer c.requires.steps c.in_ok-path.ensures.ok

pub returns-in_err-plan-clause-refused : goal.returns-in_err-plan-clause-refused
returns-in_err-plan-clause-refused c =
    let edit = c.args.edit.now in
    let old = tree_of c.args.config.now in
    let path = c.in_ok-path.path in
    let parsed = parsed-Ok (chars c.args.pointer.now) path c.in_ok-path.ensures.met in
    let p = err_from_is_err_and c.from_residual-in_err-plan.result c.from_residual-in_err-plan.ensures.1 in
    rw (p.1, p.2)
    (or_so (λ is. at-path edit old (chars c.args.pointer.now) path parsed ∙ ap (λ r. and_then r checked_tree) is)
    (path-refused (tree_after_edit edit old path) c.in_err-plan.field-0.0 c.in_err-plan.ensures.refused))

pub returns-then-not-keeps_depth-clause-refused : goal.returns-then-not-keeps_depth-clause-refused
returns-then-not-keeps_depth-clause-refused c =
    let edit = c.args.edit.now in
    let old = tree_of c.args.config.now in
    let path = c.in_ok-path.path in
    let made = c.in_ok-plan.ensures.ok in
    let parsed = parsed-Ok (chars c.args.pointer.now) path c.in_ok-path.ensures.met in
    inr (at-path edit old (chars c.args.pointer.now) path parsed
    ∙ checked_edit-deep edit path old made.0 made.1
    (sym (c.keeps_depth.ensures old made.0 c.requires.within.deep made.1) ∙ c.if-not-keeps_depth.true))

pub returns-then-bytes-from-clause-refused : goal.returns-then-bytes-from-clause-refused
returns-then-bytes-from-clause-refused c =
    let edit = c.args.edit.now in
    let old = tree_of c.args.config.now in
    let path = c.in_ok-path.path in
    let made = c.in_ok-plan.ensures.ok in
    let alone = made.2.alone in
    let parsed = parsed-Ok (chars c.args.pointer.now) path c.in_ok-path.ensures.met in
    inr (at-path edit old (chars c.args.pointer.now) path parsed
    ∙ checked_edit-large edit path old made.0 made.1
    (at_most (depth made.0) config_limits.depth
    (sym (c.keeps_depth.ensures old made.0 c.requires.within.deep made.1) ∙ c.if-not-keeps_depth.false))
    (omega (arith, alone, c.style_length.ensures, c.length_after-bytes.ensures, c.if-bytes-from.true)))

pub returns-clause-path : goal.returns-clause-path
returns-clause-path c = parsed-Ok (chars c.args.pointer.now) c.in_ok-path.path c.in_ok-path.ensures.met

pub returns-clause-ok : goal.returns-clause-ok
returns-clause-ok c =
    let old = tree_of c.args.config.now in
    let made = c.in_ok-plan.ensures.ok in
    let alone = made.2.alone in
    record {
      new = made.0;
      steps = pointer-steps c.args.pointer.now c.in_ok-path.path c.utf8.pointer c.requires.steps c.in_ok-path.ensures.ok;
      made = made.1;
      deep = at_most (depth made.0) config_limits.depth
          (sym (c.keeps_depth.ensures old made.0 c.requires.within.deep made.1) ∙ c.if-not-keeps_depth.false);
      long = omega (arith, alone, c.style_length.ensures, c.length_after-bytes.ensures, c.if-bytes-from.false);
      bytes = omega (arith, alone, c.style_length.ensures, c.length_after-bytes.ensures);
      changes = made.2;
      places = c.in_ok-plan.ensures.places;
    }
