use Rattle.std.proofs.Common.{◌≡◌, rules, IfSome, [], ◌∷◌, ap, sym, subst, ◌∙◌}
use Rattle.conf_session.proofs.Prelude.{map-append, condition_of, conditions_of, IfSome_then, IfOk-weaker}
use Rattle.conf_session.proofs.CommandLineLemmas.{no_element_lines, element_lines_joined, element_taken, conditional_lines}
use Rattle.conf_session.specs.{CommandLines.{AreConditionLines, IsConditionLines}, SaidConditions.condition_in}
use Rattle.conf_session.specs.{ConditionLines.condition_cut, Said.said_of}
use Rattle.conf_session.proofs.command_lines.conditional_in.Goals as goal

pub loop-left-init : goal.loop-left-init
loop-left-init c =
    let lines = c.args.lines.now in (
      subst (λ cs. AreConditionLines lines (conditions_of cs) lines) (sym c.new-conditions.ensures.items)
          (no_element_lines condition_in lines),
      search rules,
    )

pub loop-left-preserved : goal.loop-left-preserved
loop-left-preserved c =
    let l = c.loop-left in
    let lines = c.args.lines.now in
    let condition = c.in-Some-2.condition in
    let texts = c.in-Some.texts in
    let made : condition_of condition ≡ condition_cut texts =
    subst (λ found. IfSome found (λ condition. condition_of condition ≡ condition_cut texts)) c.in-Some-2.is
    c.in_ok-condition.ensures in
    let seen = ap conditions_of c.in_ok-push.ensures.items ∙ map-append condition_of l.conditions.items (condition ∷ []) in (
      subst (λ cs. AreConditionLines lines cs c.in-Some.after.now) (sym seen)
          (element_lines_joined condition_in lines l.left.now c.in-Some.after.now (conditions_of l.conditions.items)
          (condition_of condition ∷ []) l.invariant.0
          (subst (λ x. IsConditionLines l.left.now x c.in-Some.after.now) (sym made) c.in-Some.ensures)),
      search rules,
    )

pub loop-left-smaller : goal.loop-left-smaller
loop-left-smaller c =
    element_taken condition_in c.loop-left.left.now c.in-Some.after.now (condition_cut c.in-Some.texts) c.in-Some.ensures

pub returns : goal.returns
returns c =
    let l = c.loop-left in
    IfOk-weaker c.change_after.result _ _
    (λ found is. IfSome_then found is (λ said after.
    conditional_lines c.args.lines.now l.left.now (conditions_of l.conditions.items) (said_of said) l.invariant.0 after))
    c.change_after.ensures
