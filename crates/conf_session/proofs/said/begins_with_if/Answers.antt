use Rattle.std.proofs.Common.{◌≡◌, codes, get_or, length, refl, sym, ap, ◌∙◌}
use Rattle.conf_session.proofs.{Prelude.{eqb-false, chars, same_text, text_bytes, ascii}, SaidLemmas.first-if}
use Rattle.conf_session.proofs.said.begins_with_if.Goals as goal

pub returns : goal.returns
returns c =
    let first = get_or c.args.pairs.now 0 c.index-pairs-0.result in
    let some : length c.args.pairs.now ≡ 0 → ⊥ = eqb-false _ _ (sym c.is_empty.ensures ∙ c.if-is_empty.false) in
    c.is_same.ensures ∙ ap (λ b. same_text (chars b) (chars (codes "if"))) c.deref.ensures
    ∙ ap (same_text (chars (text_bytes first.0))) (ascii (codes "if") refl)
    ∙ sym (first-if c.args.pairs.now c.index-pairs-0.result some)
