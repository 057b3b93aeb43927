use Rattle.std.{proofs.Common.{[], ◌∷◌, ◌≡◌, List, length, sym, refl, arith}, specs.Vec.vec_len}
use Rattle.conf_session.{proofs.Prelude.{eqb-false, IfSome_then, IfOk-weaker}, specs.Said.parts_seen}
use Rattle.conf_session.specs.declared.parts.Part as code
use Rattle.conf_session.proofs.command_lines.batch_before.Goals as goal

some_left : (ps : List code.Part) → (length ps ≡ 0 → ⊥) → parts_seen ps ≡ [] → ⊥
some_left [] some e = some refl
some_left (p ∷ ps) some none = cc

pub returns : goal.returns
returns c =
    let parts = c.args.parts in
    let some = some_left parts.items (λ none.
    eqb-false (vec_len parts) 0 (sym c.if-is_empty.ensures) (omega (arith, parts.ok, none))) in
    IfOk-weaker c.change_before.result _ _ (λ found is. IfSome_then found is (λ said ends. (some, ends))) c.change_before.ensures
