use Rattle.std.{proofs.Common.{◌≡◌, IfSome, [], ◌∷◌, List, length, sym, subst, refl, arith}, specs.Vec.vec_len}
use Rattle.conf_session.{proofs.Prelude.{eqb-false, conditions_of, IfSome_then}, specs.{Said.said_of, CommandLines.IsChangeLines}}
use Rattle.conf_conditions.specs.declared.condition.Condition as code
use Rattle.conf_session.proofs.command_lines.change_after.Goals as goal

some_left : (cs : List code.Condition) → (length cs ≡ 0 → ⊥) → conditions_of cs ≡ [] → ⊥
some_left [] some e = some refl
some_left (c ∷ cs) some none = cc

pub returns-in-Some : goal.returns-in-Some
returns-in-Some c =
    let lines = c.args.lines.now in
    let conditions = c.args.conditions in
    let said = c.in-Some.said in
    IfSome_then c.after_conditions.result c.after_conditions.ensures (λ after says. record {
      change = said_of said;
      command = subst (λ found. IfSome found (λ said. IsChangeLines lines (said_of said))) c.in-Some.is c.in_ok-said.ensures;
      says = says;
      some = some_left conditions.items (λ none.
          eqb-false (vec_len conditions) 0 (sym c.if-is_empty.ensures) (omega (arith, conditions.ok, none)));
    })
