use Rattle.std.{proofs.Common.{◌≡◌, true, false, sym, ap, ◌∙◌, arith, refl, ℕ, ◌+◌}, specs.Prelude.{Bool, ◌==◌, ◌||◌, List, ◌∷◌}}
use Rattle.yaml_flow.proofs.Prelude.{len_utf8, rest, char_at, rest-end, first, ends_entry, sign_there}
use Rattle.yaml_flow.proofs.pair.entry_ends.Goals as goal

or_false : (b : Bool) → b ≡ b || false
or_false true = refl
or_false false = refl

closing_is : (x : ℕ) (cs : List ℕ) → (x == 44) ≡ false → (x == 93) ≡ false → (x == 125) ≡ ends_entry (x ∷ cs)
closing_is x cs h k = rw (h, k) (or_false (x == 125))

pub returns-then-at-text : goal.returns-then-at-text
returns-then-at-text c = sym (ap ends_entry (rest-end c.args.text.now c.args.at (omega (arith, c.if-at-text.true))))

pub returns-then-stands_at : goal.returns-then-stands_at
returns-then-stands_at c =
    sym (ap ends_entry (sign_there c.args.text.now c.args.at 44 c.utf8.text c.requires (omega arith)
    (sym c.stands_at.ensures ∙ c.if-stands_at.true)).splits)

pub returns-then-stands_at-2 : goal.returns-then-stands_at-2
returns-then-stands_at-2 c =
    sym (ap ends_entry (sign_there c.args.text.now c.args.at 93 c.utf8.text c.requires (omega arith)
    (sym c.stands_at-2.ensures ∙ c.if-stands_at-2.true)).splits)

pub returns : goal.returns
returns c =
    let text = c.args.text.now in
    let at = c.args.at in
    let there = char_at text at c.utf8.text c.requires (omega (arith, c.requires.0, c.if-at-text.false)) in
    c.stands_at-3.ensures
    ∙ (ap (first (λ x. x == 125)) there.1.splits
    ∙ (closing_is there.0 (rest text (at + len_utf8 there.0))
    (sym (ap (first (λ x. x == 44)) there.1.splits) ∙ (sym c.stands_at.ensures ∙ c.if-stands_at.false))
    (sym (ap (first (λ x. x == 93)) there.1.splits) ∙ (sym c.stands_at-2.ensures ∙ c.if-stands_at-2.false))
    ∙ sym (ap ends_entry there.1.splits)))
