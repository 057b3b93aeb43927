use Rattle.std.proofs.{Common.{◌≡◌, List, [], ◌∷◌, length, get_or, vec_len, refl, sym, ap, ◌∙◌, arith}, lemmas.List.nil_from_length}
use Rattle.conf_record.proofs.Prelude.{eqb-true, eqb-false, remove, Pair}
use Rattle.conf_record.proofs.fields.split_first.Goals as goal

first_there : (ps : List Pair) (p : Pair) → (length ps ≡ 0 → ⊥) → p ≡ get_or ps 0 p → ps ≡ p ∷ remove ps 0
first_there [] p some is = absurd (some refl)
first_there (q ∷ qs) p some is = ap (λ x. x ∷ qs) (sym is)

pub returns-then-is_empty : goal.returns-then-is_empty
returns-then-is_empty c =
    let none : vec_len c.args.pairs ≡ 0 = eqb-true _ _ (sym c.is_empty.ensures ∙ c.if-is_empty.true) in
    let counted = c.args.pairs.ok in
    nil_from_length c.args.pairs.items (omega (arith, counted, none))

pub returns : goal.returns
returns c =
    let first = c.remove-first.result in
    let counted = c.args.pairs.ok in
    let some : vec_len c.args.pairs ≡ 0 → ⊥ = eqb-false _ _ (sym c.is_empty.ensures ∙ c.if-is_empty.false) in
    first_there c.args.pairs.items first (λ none. some (omega (arith, counted, none))) c.remove-first.ensures.value
    ∙ ap (λ rest. first ∷ rest) (sym c.remove-first.ensures.items)
